-- The kinds of transactions: where the title has to stand, who acts, whether there is a recipient, and what becomes of
-- the title.
use Rattle.std.specs.Prelude.{Bool, true, false, Option, Some, None}
use Rattle.ebl_base.specs.declared.kind.Kind.{Kind}
use Rattle.ebl_base.specs.declared.kind.Kind.TheVariants.{Sign, Issue, Endorse, Transfer, SurrenderForDelivery, SurrenderForAmendment, SurrenderAccepted, SurrenderRefused}
use Rattle.ebl_base.specs.declared.party.Party.{Party}
use Rattle.title_fold.specs.declared.title.Title.{Title}
use Rattle.title_fold.specs.declared.title.Title.TheVariants.{Signed, Live, Asked, Ended}
use Rattle.title_fold.specs.Title.{carrier, possessor, title_holder}

-- how far a bill has come
pub data Stage : Type 0 where
  unsigned : Stage
  signed : Stage
  live : Stage
  asked : Stage
  ended : Stage

-- who may act
pub data Actor : Type 0 where
  anyone : Actor
  the_carrier : Actor
  the_possessor : Actor
  the_possessor_who_is_title_holder : Actor

-- whether a transaction names a recipient
pub data Recipient : Type 0 where
  no_recipient : Recipient
  a_recipient : Recipient

-- what becomes of a title: the title before, the actor and the recipient give the title after
abbrev pub Effect : Type 0
Effect = Title → Party → Party → Title

-- the actor is carrier
abbrev pub begins : Effect
begins title actor recipient = Signed actor

-- the recipient is possessor and title holder
abbrev pub issues : Effect
issues title actor recipient = Live (carrier title) recipient recipient

-- the title holder changes
abbrev pub hands_the_title_on : Effect
hands_the_title_on title actor recipient = Live (carrier title) (possessor title) recipient

-- the possessor changes
abbrev pub hands_possession_on : Effect
hands_possession_on title actor recipient = Live (carrier title) recipient (title_holder title)

-- the actor asks for a surrender of this kind
abbrev pub asks : Kind → Effect
asks kind title actor recipient = Asked kind (carrier title) actor

-- the surrender that was asked for ends the bill
abbrev pub accepts : Effect
accepts (Asked kind c by) actor recipient = Ended kind c
accepts title actor recipient = title

-- the asker is possessor and title holder again
abbrev pub refuses : Effect
refuses title actor recipient = Live (carrier title) (title_holder title) (title_holder title)

-- a row of the table
pub record Row : Type 0 where
  pub from : Stage
  pub actor : Actor
  pub recipient : Recipient
  pub effect : Effect

abbrev pub row : Stage → Actor → Recipient → Effect → Row
row from actor recipient effect = record { from = from; actor = actor; recipient = recipient; effect = effect }

-- each kind with its stage, its actor, its recipient and its effect
abbrev pub table : Kind → Row
table Sign = row unsigned anyone no_recipient begins
table Issue = row signed the_carrier a_recipient issues
table Endorse = row live the_possessor_who_is_title_holder a_recipient hands_the_title_on
table Transfer = row live the_possessor a_recipient hands_possession_on
table SurrenderForDelivery = row live the_possessor_who_is_title_holder no_recipient (asks SurrenderForDelivery)
table SurrenderForAmendment = row live the_possessor_who_is_title_holder no_recipient (asks SurrenderForAmendment)
table SurrenderAccepted = row asked the_carrier no_recipient accepts
table SurrenderRefused = row asked the_carrier no_recipient refuses

-- whether a title stands so
abbrev pub stands_at : Stage → Option Title → Bool
stands_at unsigned None = true
stands_at signed (Some (Signed c)) = true
stands_at live (Some (Live c p h)) = true
stands_at asked (Some (Asked kind c by)) = true
stands_at ended (Some (Ended kind c)) = true
stands_at stage before = false

-- whether the actor has to be the carrier
abbrev pub is_for_carrier : Actor → Bool
is_for_carrier the_carrier = true
is_for_carrier actor = false

-- whether the actor has to be the possessor
abbrev pub is_for_possessor : Actor → Bool
is_for_possessor the_possessor = true
is_for_possessor the_possessor_who_is_title_holder = true
is_for_possessor actor = false

-- whether the actor has to be the title holder
abbrev pub is_for_title_holder : Actor → Bool
is_for_title_holder the_possessor_who_is_title_holder = true
is_for_title_holder actor = false

-- whether there is a recipient if and only if the kind has one
abbrev pub is_recipient_right : Recipient → Option Party → Bool
is_recipient_right no_recipient None = true
is_recipient_right no_recipient (Some party) = false
is_recipient_right a_recipient None = false
is_recipient_right a_recipient (Some party) = true

-- whether the kind asks for a surrender
abbrev pub is_surrender : Kind → Bool
is_surrender SurrenderForDelivery = true
is_surrender SurrenderForAmendment = true
is_surrender kind = false
