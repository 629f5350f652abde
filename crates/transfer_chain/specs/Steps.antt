-- For private clauses: the pass over a chain with the title so far.
use Rattle.std.specs.Prelude.{ℕ, ◌+◌, Bool, true, false, not, ◌&&◌, List, [], ◌∷◌, Option, Some, None, Result, Ok, Err, if◌then◌else◌}
use Rattle.ebl_base.specs.Checksum.{checksum_eq}
use Rattle.ebl_base.specs.Party.{party_eq}
use Rattle.ebl_base.specs.PlatformCode.{code_eq}
use Rattle.ebl_base.specs.declared.chain.ChainLink.{ChainLink}
use Rattle.ebl_base.specs.declared.checksum.Checksum.{Checksum}
use Rattle.ebl_base.specs.declared.entry.Entry.{Entry}
use Rattle.ebl_base.specs.declared.party.Party.{Party}
use Rattle.ebl_base.specs.declared.platform_code.PlatformCode.{PlatformCode}
use Rattle.ebl_base.specs.declared.signed_text.SignedText.{SignedText}
use Rattle.ebl_base.specs.declared.transaction.Transaction.{Transaction}
use Rattle.chain_entry.specs.declared.fault.EntryFault.{EntryFault}
use Rattle.chain_entry.specs.declared.fault.EntryFault.TheVariants as entry
use Rattle.signed_envelope.specs.KeyRing.{Keys}
use Rattle.signed_envelope.specs.declared.fault.BadSigned.{BadSigned}
use Rattle.signed_envelope.specs.declared.fault.BadSigned.TheVariants as bad
use Rattle.title_fold.specs.declared.refusal.FoldRefusal.{FoldRefusal}
use Rattle.title_fold.specs.declared.refusal.FoldAt.{FoldAt}
use Rattle.title_fold.specs.declared.title.Title.{Title}
use Rattle.title_fold.specs.Movement.{moves}
use Rattle.title_fold.specs.Step.{step_title}
use Rattle.title_fold.specs.Title.{possessor}
use Rattle.transfer_chain.specs.GoodChain.{first_actor}
use Rattle.transfer_chain.specs.Refusal.{IsBadlySigned, HasNoEntry, IsOfAnother}
use Rattle.transfer_chain.specs.declared.fault.ChainRefusal.{ChainRefusal}
use Rattle.transfer_chain.specs.declared.fault.ChainRefusal.TheVariants.{BadSignature, EntryForm, WrongSigner, BrokenLink, WrongBill, Carrier, WrongPlatform, Fold, Move, NoMemory}
use Rattle.transfer_chain.specs.declared.verify_texts.TextFault.{TextFault}
use Rattle.transfer_chain.specs.declared.verify_texts.TextFault.TheVariants as text
use Rattle.transfer_chain.specs.declared.replay.Replayed.{Replayed}

-- ---- texts

-- what is wrong with a text
abbrev pub IsTextFault : Keys → SignedText → TextFault → Type 0
IsTextFault keys t (text.Signature why) = IsBadlySigned keys why t
IsTextFault keys t (text.Form field) = HasNoEntry keys field t
IsTextFault keys t text.Signer = IsOfAnother keys t
IsTextFault keys t text.NoMemory = Unit {0}

-- the fault of a text that is not signed
abbrev pub signature_fault : BadSigned → TextFault
signature_fault bad.NoMemory = text.NoMemory
signature_fault why = text.Signature why

-- the fault of a payload that is no entry
abbrev pub entry_fault : EntryFault → TextFault
entry_fault entry.NoMemory = text.NoMemory
entry_fault (entry.EntryForm field) = text.Form field

-- the refusal of the text at this place
abbrev pub refusal_at : ℕ → TextFault → ChainRefusal
refusal_at place (text.Signature why) = BadSignature place why
refusal_at place (text.Form field) = EntryForm place field
refusal_at place text.Signer = WrongSigner place
refusal_at place text.NoMemory = NoMemory

-- ---- one entry

-- whether two names, if any, are one
abbrev pub same_name : Option Checksum → Option Checksum → Bool
same_name None None = true
same_name None (Some b) = false
same_name (Some a) None = false
same_name (Some a) (Some b) = checksum_eq a b

-- whether two parties are there and are one
abbrev pub same_party : Option Party → Option Party → Bool
same_party None b = false
same_party (Some a) None = false
same_party (Some a) (Some b) = party_eq a b

-- where no title stands, the carrier acts first
abbrev pub is_by_carrier : Option Party → Option Title → List Transaction → Bool
is_by_carrier carrier None ts = same_party carrier (first_actor ts)
is_by_carrier carrier (Some title) ts = true

-- the platform of a party that is there
abbrev pub platform_at : Option Party → Option PlatformCode
platform_at None = None
platform_at (Some party) = Some party.platform

-- nothing follows
abbrev pub is_end : List Transaction → Bool
is_end [] = true
is_end (t ∷ ts) = false

-- whose turn it is, by the title so far
abbrev pub turn_of : Option Title → List Transaction → Option PlatformCode
turn_of None ts = platform_at (first_actor ts)
turn_of (Some title) ts = Some (possessor title).platform

-- whether it is the platform's turn
abbrev pub is_expected_platform : Option PlatformCode → PlatformCode → Bool
is_expected_platform None platform = false
is_expected_platform (Some turn) platform = code_eq turn platform

-- whether a transaction moves if and only if it is the last
abbrev pub agree : Bool → Bool → Bool
agree true true = true
agree true false = false
agree false true = false
agree false false = true

-- after a step that is taken
abbrev pub after_step : ℕ → (Title → Result Replayed FoldAt) → Result Title FoldRefusal → Result Replayed FoldAt
after_step place next (Ok title) = next title
after_step place next (Err rule) = Err (record { place = place; rule = rule })

-- the title after the transactions, and whether the last alone moves
abbrev pub run : List Transaction → Option Title → Bool → ℕ → Result Replayed FoldAt
run [] title so_far place = Ok (record { title = title; moves_last = so_far })
run (t ∷ ts) title so_far place =
    after_step place (λ after. run ts (Some after) (so_far && agree (moves title after) (is_end ts)) (place + 1))
    (step_title title t)

-- the title after the entry at this place
abbrev pub after_run : ℕ → Result Replayed FoldAt → Result (Option Title) ChainRefusal
after_run place (Err at) = Err (Fold place at.place at.rule)
after_run place (Ok ran) = if ran.moves_last then Ok ran.title else Err (Move place)

-- the title after an entry that may stand here, or what is wrong with it first
abbrev pub check_entry : Option Party → Checksum → Option Checksum → Option Title → ℕ → Entry
    → Result (Option Title) ChainRefusal
check_entry carrier bill previous title place entry =
    if not (same_name entry.previous previous) then Err (BrokenLink place) else
    if not (checksum_eq entry.bill bill) then Err (WrongBill place) else
    if not (is_by_carrier carrier title entry.transactions) then Err Carrier else
    if not (is_expected_platform (turn_of title entry.transactions) entry.platform) then Err (WrongPlatform place) else
    after_run place (run entry.transactions title true 0)

-- ---- all entries

-- after an entry that may stand there
abbrev pub after_entry : (Option Title → Result (Option Title) ChainRefusal) → Result (Option Title) ChainRefusal
    → Result (Option Title) ChainRefusal
after_entry next (Ok title) = next title
after_entry next (Err refusal) = Err refusal

-- the title after the links, the first of which has this place; or the first refusal
abbrev pub pass : Option Party → Checksum → List ChainLink → Option Checksum → Option Title → ℕ
    → Result (Option Title) ChainRefusal
pass carrier bill [] previous title place = Ok title
pass carrier bill (link ∷ chain) previous title place =
    after_entry (λ after. pass carrier bill chain (Some link.name) after (place + 1))
    (check_entry carrier bill previous title place link.entry)
