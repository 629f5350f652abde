-- What a transaction that is allowed does to a title that stands.
use Rattle.std.proofs.Common.{◌≡◌, ◌≢◌, refl, sym, ap, subst, ◌∙◌}
use Rattle.std.specs.Prelude.{Option, Some, None, Ok, Err, if◌then◌else◌}
use Rattle.ebl_base.specs.declared.kind.Kind.{Kind}
use Rattle.ebl_base.specs.declared.kind.Kind.TheVariants.{Sign, Issue, Endorse, Transfer, SurrenderForDelivery, SurrenderForAmendment, SurrenderAccepted, SurrenderRefused}
use Rattle.ebl_base.specs.declared.party.Party.{Party}
use Rattle.ebl_base.specs.declared.transaction.Transaction.{Transaction}
use Rattle.title_fold.specs.declared.title.Title.{Title}
use Rattle.title_fold.specs.declared.title.Title.TheVariants.{Signed, Live, Asked, Ended}
use Rattle.title_fold.specs.declared.refusal.FoldRefusal.TheVariants.{F1, F3}
use Rattle.title_fold.specs.Title.{carrier, possessor, title_holder}
use Rattle.title_fold.specs.Rules.{is_sign}
use Rattle.title_fold.specs.Step.{step_title}
use Rattle.title_fold.specs.Allowed.{Allows}
use Rattle.title_fold.specs.Changes.{GivesPossession, GivesTitle}
use Rattle.title_fold.proofs.StepLemmas.{step_title-allowed, allowed-step_title}

-- all that the laws say of one transaction that is allowed
record Lawful (before : Title) (kind : Kind) (actor : Party) (recipient : Option Party)
    (after : Title) : Type 0 where
  same_carrier : carrier after ≡ carrier before
  by_possessor : actor ≡ possessor before
  possession : GivesPossession kind recipient before after
  title : GivesTitle kind recipient before after

lawful : (before : Title) (kind : Kind) (actor : Party) (recipient : Option Party) (after : Title)
    → Allows (Some before) kind actor recipient after → Lawful before kind actor recipient after
lawful (Signed c) Issue actor None after h = absurd h
lawful (Signed c) Issue actor (Some to) after h =
    record {
      same_carrier = ap carrier h.1;
      by_possessor = h.0;
      possession = ap (λ x. Some (possessor x)) (sym h.1);
      title = ap (λ x. Some (title_holder x)) (sym h.1);
    }
lawful (Signed c) kind actor recipient after h = absurd h
lawful (Live c p h) Endorse actor None after e = absurd e
lawful (Live c p h) Endorse actor (Some to) after e =
    record {
      same_carrier = ap carrier e.3;
      by_possessor = e.0;
      possession = ap possessor e.3;
      title = ap (λ x. Some (title_holder x)) (sym e.3);
    }
lawful (Live c p h) Transfer actor None after e = absurd e
lawful (Live c p h) Transfer actor (Some to) after e =
    record {
      same_carrier = ap carrier e.2;
      by_possessor = e.0;
      possession = ap (λ x. Some (possessor x)) (sym e.2);
      title = ap title_holder e.2;
    }
lawful (Live c p h) SurrenderForDelivery actor None after e =
    record {
      same_carrier = ap carrier e.2;
      by_possessor = e.0;
      possession = ap possessor e.2;
      title = ap title_holder e.2 ∙ e.1;
    }
lawful (Live c p h) SurrenderForDelivery actor (Some to) after e = absurd e
lawful (Live c p h) SurrenderForAmendment actor None after e =
    record {
      same_carrier = ap carrier e.2;
      by_possessor = e.0;
      possession = ap possessor e.2;
      title = ap title_holder e.2 ∙ e.1;
    }
lawful (Live c p h) SurrenderForAmendment actor (Some to) after e = absurd e
lawful (Live c p h) kind actor recipient after e = absurd e
lawful (Asked asked c by) SurrenderAccepted actor None after h =
    record {
      same_carrier = ap carrier h.1;
      by_possessor = h.0;
      possession = ap possessor h.1;
      title = ap title_holder h.1;
    }
lawful (Asked asked c by) SurrenderAccepted actor (Some to) after h = absurd h
lawful (Asked asked c by) SurrenderRefused actor None after h =
    record {
      same_carrier = ap carrier h.1;
      by_possessor = h.0;
      possession = ap possessor h.1;
      title = ap title_holder h.1;
    }
lawful (Asked asked c by) SurrenderRefused actor (Some to) after h = absurd h
lawful (Asked asked c by) kind actor recipient after h = absurd h
lawful (Ended asked c) kind actor recipient after h = absurd h

taken_lawfully : (before : Title) (t : Transaction) (after : Title)
    → step_title (Some before) t ≡ Ok after
    → Lawful before t.kind t.actor t.recipient after
taken_lawfully before t after h =
    lawful before t.kind t.actor t.recipient after (step_title-allowed (Some before) t after h)

-- the carrier stays the carrier
pub carrier_stays : (before : Title) (t : Transaction) (after : Title)
    → step_title (Some before) t ≡ Ok after
    → carrier after ≡ carrier before
carrier_stays before t after h = (taken_lawfully before t after h).same_carrier

-- the possessor alone acts
pub possessor_alone_acts : (before : Title) (t : Transaction) (after : Title)
    → step_title (Some before) t ≡ Ok after
    → t.actor ≡ possessor before
possessor_alone_acts before t after h = (taken_lawfully before t after h).by_possessor

-- possession goes as the kind says
pub possession_goes : (before : Title) (t : Transaction) (after : Title)
    → step_title (Some before) t ≡ Ok after
    → GivesPossession t.kind t.recipient before after
possession_goes before t after h = (taken_lawfully before t after h).possession

-- the title goes as the kind says
pub title_goes : (before : Title) (t : Transaction) (after : Title)
    → step_title (Some before) t ≡ Ok after
    → GivesTitle t.kind t.recipient before after
title_goes before t after h = (taken_lawfully before t after h).title

-- a title that is ended refuses everything
pub ended_refuses : (kind : Kind) (c : Party) (t : Transaction)
    → step_title (Some (Ended kind c)) t ≡ Err (if is_sign t.kind then F1 else F3)
ended_refuses kind c t = by t.kind
  where
    by : (k : Kind)
        → step_title (Some (Ended kind c)) (record t { kind = k }) ≡ Err (if is_sign k then F1 else F3)
    by Sign = refl
    by k = refl

-- how a title begins
begins : (kind : Kind) (actor : Party) (recipient : Option Party) (after : Title)
    → Allows None kind actor recipient after → (kind ≡ Sign) × (recipient ≡ None) × (after ≡ Signed actor)
begins Sign actor None after h = (refl, refl, h)
begins Sign actor (Some to) after h = absurd h
begins kind actor recipient after h = absurd h

-- a title begins with a SIGN that has no recipient, and its actor is the carrier
pub begins_with_sign : (t : Transaction) (after : Title)
    → step_title None t ≡ Ok after
    → (t.kind ≡ Sign) × (t.recipient ≡ None) × (after ≡ Signed t.actor)
begins_with_sign t after h = begins t.kind t.actor t.recipient after (step_title-allowed None t after h)

pub begins_by_sign : (t : Transaction) (after : Title) → step_title None t ≡ Ok after → t.kind ≡ Sign
begins_by_sign t after h = (begins_with_sign t after h).0

pub begins_for_nobody : (t : Transaction) (after : Title) → step_title None t ≡ Ok after → t.recipient ≡ None
begins_for_nobody t after h = (begins_with_sign t after h).1

pub begins_as_signed : (t : Transaction) (after : Title)
    → step_title None t ≡ Ok after
    → after ≡ Signed t.actor
begins_as_signed t after h = (begins_with_sign t after h).2

-- another kind than ENDORSE leaves the title holder of a live title
holder_left : (c p h : Party) (kind : Kind) (actor : Party) (recipient : Option Party) (after : Title)
    → Allows (Some (Live c p h)) kind actor recipient after → (kind ≢ Endorse) → title_holder after ≡ h
holder_left c p h Endorse actor recipient after e other = absurd (other refl)
holder_left c p h Transfer actor None after e other = absurd e
holder_left c p h Transfer actor (Some to) after e other = ap title_holder e.2
holder_left c p h SurrenderForDelivery actor None after e other = ap title_holder e.2 ∙ e.1
holder_left c p h SurrenderForDelivery actor (Some to) after e other = absurd e
holder_left c p h SurrenderForAmendment actor None after e other = ap title_holder e.2 ∙ e.1
holder_left c p h SurrenderForAmendment actor (Some to) after e other = absurd e
holder_left c p h kind actor recipient after e other = absurd e

pub endorse_alone : (c p h : Party) (t : Transaction) (after : Title)
    → step_title (Some (Live c p h)) t ≡ Ok after → (t.kind ≢ Endorse) → title_holder after ≡ h
endorse_alone c p h t after e other =
    holder_left c p h t.kind t.actor t.recipient after (step_title-allowed (Some (Live c p h)) t after e) other

-- an ENDORSE leaves all but the title holder
all_left : (c p h actor : Party) (recipient : Option Party) (after : Title)
    → Allows (Some (Live c p h)) Endorse actor recipient after → after ≡ Live c p (title_holder after)
all_left c p h actor None after e = absurd e
all_left c p h actor (Some to) after e = e.3 ∙ ap (Live c p) (sym (ap title_holder e.3))

pub endorse_only : (c p h : Party) (t : Transaction) (after : Title)
    → step_title (Some (Live c p h)) t ≡ Ok after → t.kind ≡ Endorse → after ≡ Live c p (title_holder after)
endorse_only c p h t after e endorses =
    all_left c p h t.actor t.recipient after
    (subst (λ kind. Allows (Some (Live c p h)) kind t.actor t.recipient after) endorses (step_title-allowed (Some (Live c p h)) t after e))

-- all of these
pub ruleset title_laws = (
  step_title-allowed,
  allowed-step_title,
  begins_by_sign,
  begins_for_nobody,
  begins_as_signed,
  carrier_stays,
  possessor_alone_acts,
  possession_goes,
  title_goes,
  endorse_alone,
  endorse_only,
  ended_refuses,
)
