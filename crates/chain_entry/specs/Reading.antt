-- Which JSON values are entries and transactions, and the first wrong member of another value.
use Rattle.std.specs.Prelude.{◌≡◌, ℕ, List, Option, Some, None, Result, Ok, Err, codes, option_and_then}
use Rattle.canonical_json.specs.Value.{Value}
use Rattle.canonical_json.specs.Field.{text_of}
use Rattle.json_forms.specs.Reading.{required, unless_malformed, required_platform, required_checksum, optional_checksum, required_number, required_party, optional_party, required_items, all_of}
use Rattle.json_forms.specs.declared.reading.Malformed.{Malformed}
use Rattle.ebl_base.specs.Kind.{kind_of}
use Rattle.ebl_base.specs.Moment.{moment_of}
use Rattle.ebl_base.specs.declared.kind.Kind.{Kind}
use Rattle.ebl_base.specs.declared.limits.TheConstants.{MAX_ENTRY_TRANSACTIONS, MAX_WHOLE_NUMBER}
use Rattle.ebl_base.specs.declared.party.Party.{Party}
use Rattle.ebl_base.specs.declared.moment.Moment.{Moment}
use Rattle.ebl_base.specs.declared.transaction.Transaction.{Transaction}
use Rattle.ebl_base.specs.declared.entry.Entry.{Entry}
use Rattle.chain_entry.specs.declared.fault.EntryField.{EntryField}
use Rattle.chain_entry.specs.declared.fault.EntryField.TheVariants.{Platform, Bill, Previous, Attempt, Transactions}
use Rattle.chain_entry.specs.declared.fault.EntryFault.{EntryFault}
use Rattle.chain_entry.specs.declared.fault.EntryFault.TheVariants.{EntryForm, NoMemory}

-- ---- transactions

-- the kind under its name
abbrev pub required_kind : Value → Option Kind
required_kind v = option_and_then kind_of (text_of (codes "kind") v)

-- the moment under its name
abbrev pub required_time : Value → Option Moment
required_time v = option_and_then moment_of (required_number (codes "time") 0 MAX_WHOLE_NUMBER v)

-- the transaction with these parts, where each has its form
abbrev pub transaction_with : Option Kind → Option Party → Result (Option Party) Malformed → Option Moment
    → Option Transaction
transaction_with None actor recipient time = None
transaction_with (Some kind) None recipient time = None
transaction_with (Some kind) (Some actor) (Err other) time = None
transaction_with (Some kind) (Some actor) (Ok recipient) None = None
transaction_with (Some kind) (Some actor) (Ok recipient) (Some time) =
    Some (record { kind = kind; actor = actor; recipient = recipient; time = time })

-- the transaction that a value is
abbrev pub transaction_of : Value → Option Transaction
transaction_of v =
    transaction_with (required_kind v) (required_party (codes "actor") v) (optional_party (codes "recipient") v)
    (required_time v)

-- ---- entries

-- the transactions under their name, 1 to 32
abbrev pub transactions_of : Value → Option (List Transaction)
transactions_of v =
    option_and_then (all_of transaction_of) (required_items (codes "transactions") 1 MAX_ENTRY_TRANSACTIONS v)

-- the entry that a value is, or the first member that is absent or malformed
abbrev pub entry_of : Value → Result Entry EntryField
entry_of v =
    required Platform (required_platform (codes "platform") v) (λ platform.
    required Bill (required_checksum (codes "bill") v) (λ bill.
    unless_malformed Previous (optional_checksum (codes "previous") v) (λ previous.
    required Attempt (required_number (codes "attempt") 1 4294967295 v) (λ attempt.
    required Transactions (transactions_of v) (λ transactions.
    Ok (record {
      platform = platform;
      bill = bill;
      previous = previous;
      attempt = attempt;
      transactions = transactions;
    }))))))

-- ---- faults

-- the name of a member
abbrev pub field_text : EntryField → List ℕ
field_text Platform = codes "platform"
field_text Bill = codes "bill"
field_text Previous = codes "previous"
field_text Attempt = codes "attempt"
field_text Transactions = codes "transactions"

-- the fault is the wrong member that was found, or memory ran out
abbrev pub IsFault : Result Entry EntryField → EntryFault → Type 0
IsFault read (EntryForm field) = read ≡ Err field
IsFault read NoMemory = Unit {0}

-- the value is no transaction
abbrev pub IsTransactionFault : Option Transaction → EntryFault → Type 0
IsTransactionFault read fault = (read ≡ None) × (fault ≡ EntryForm Transactions)
