-- What it says that a transaction is allowed.
use Rattle.std.proofs.Common.{◌≡◌, ◌≢◌, Bool, true, false, not, cond, refl, sym, ap, ◌∙◌}
use Rattle.std.specs.Prelude.{Option, Some, None, Ok, Err}
use Rattle.ebl_base.specs.declared.kind.Kind.{Kind}
use Rattle.ebl_base.specs.declared.kind.Kind.TheVariants.{Sign, Issue, Endorse, Transfer, SurrenderForDelivery, SurrenderForAmendment, SurrenderAccepted, SurrenderRefused}
use Rattle.ebl_base.specs.declared.moment.Moment.{Moment}
use Rattle.ebl_base.specs.declared.party.Party.{Party}
use Rattle.ebl_base.specs.declared.transaction.Transaction.{Transaction}
use Rattle.ebl_base.specs.Party.{party_eq}
use Rattle.ebl_base.proofs.SameLemmas.{party_eq-Decides}
use Rattle.title_fold.specs.declared.title.Title.{Title}
use Rattle.title_fold.specs.declared.title.Title.TheVariants.{Signed, Live, Asked, Ended}
use Rattle.title_fold.specs.declared.refusal.FoldRefusal.{FoldRefusal}
use Rattle.title_fold.specs.declared.refusal.FoldRefusal.TheVariants.{F9}
use Rattle.title_fold.specs.Step.{step_title, unless}
use Rattle.title_fold.specs.Allowed.{Allows, IsAllowed}

-- what was allowed
same_title : {a b : Title} → unless None a ≡ Ok b → b ≡ a
same_title e = cc

-- a rule on who acts didn't refuse
acted : (a b : Party) (rule : FoldRefusal) (rest : Option FoldRefusal) (title after : Title)
    → unless (cond (not (party_eq a b)) (Some rule) rest) title ≡ Ok after
    → (a ≡ b) × (unless rest title ≡ Ok after)
acted a b rule rest title after = by (party_eq a b) (party_eq-Decides a b).0
  where
    by : (c : Bool) → (c ≡ true → a ≡ b)
        → unless (cond (not c) (Some rule) rest) title ≡ Ok after
        → (a ≡ b) × (unless rest title ≡ Ok after)
    by true same h = (same refl, h)
    by false same h = cc

-- the rule on what is handed on didn't refuse
handed_on : (a b : Party) (title after : Title)
    → unless (cond (party_eq a b) (Some F9) None) title ≡ Ok after
    → (a ≢ b) × (unless None title ≡ Ok after)
handed_on a b title after = by (party_eq a b) (party_eq-Decides a b).1
  where
    by : (c : Bool) → (a ≡ b → c ≡ true)
        → unless (cond c (Some F9) None) title ≡ Ok after
        → (a ≢ b) × (unless None title ≡ Ok after)
    by false same h = ((λ e. let w : false ≡ true = same e in cc), h)
    by true same h = cc

-- what was refused wasn't allowed
refused : {rule : FoldRefusal} {after : Title} → Err rule ≡ Ok after → ⊥
refused e = cc

-- what a step makes stands in the table of the transactions that are allowed
takes : (before : Option Title) (kind : Kind) (actor : Party) (recipient : Option Party)
    → (time : Moment) (after : Title)
    → step_title before (record { kind = kind; actor = actor; recipient = recipient; time = time }) ≡ Ok after
    → Allows before kind actor recipient after
takes None Sign actor None time after h = same_title h
takes None Sign actor (Some to) time after h = refused h
takes None kind actor recipient time after h = refused h
takes (Some (Signed c)) Issue actor None time after h = refused h
takes (Some (Signed c)) Issue actor (Some to) time after h =
    let (same, made) = acted actor c _ _ _ after h in
    (same, same_title made)
takes (Some (Signed c)) kind actor recipient time after h = refused h
takes (Some (Live c p h)) Endorse actor None time after e = refused e
takes (Some (Live c p h)) Endorse actor (Some to) time after e =
    let (possesses, next) = acted actor p _ _ _ after e in
    let (holds, last) = acted actor h _ _ _ after next in
    let (another, made) = handed_on to actor _ after last in
    (possesses, holds, another, same_title made)
takes (Some (Live c p h)) Transfer actor None time after e = refused e
takes (Some (Live c p h)) Transfer actor (Some to) time after e =
    let (possesses, next) = acted actor p _ _ _ after e in
    let (another, made) = handed_on to actor _ after next in
    (possesses, another, same_title made)
takes (Some (Live c p h)) SurrenderForDelivery actor None time after e =
    let (possesses, next) = acted actor p _ _ _ after e in
    let (holds, made) = acted actor h _ _ _ after next in
    (possesses, holds, same_title made)
takes (Some (Live c p h)) SurrenderForDelivery actor (Some to) time after e = refused e
takes (Some (Live c p h)) SurrenderForAmendment actor None time after e =
    let (possesses, next) = acted actor p _ _ _ after e in
    let (holds, made) = acted actor h _ _ _ after next in
    (possesses, holds, same_title made)
takes (Some (Live c p h)) SurrenderForAmendment actor (Some to) time after e = refused e
takes (Some (Live c p h)) kind actor recipient time after e = refused e
takes (Some (Asked asked c by)) SurrenderAccepted actor None time after h =
    let (same, made) = acted actor c _ _ _ after h in
    (same, same_title made)
takes (Some (Asked asked c by)) SurrenderAccepted actor (Some to) time after h = refused h
takes (Some (Asked asked c by)) SurrenderRefused actor None time after h =
    let (same, made) = acted actor c _ _ _ after h in
    (same, same_title made)
takes (Some (Asked asked c by)) SurrenderRefused actor (Some to) time after h = refused h
takes (Some (Asked asked c by)) kind actor recipient time after h = refused h
takes (Some (Ended asked c)) Sign actor recipient time after h = refused h
takes (Some (Ended asked c)) kind actor recipient time after h = refused h

-- a rule on who acts doesn't refuse
acts : (a b : Party) (rule : FoldRefusal) (rest : Option FoldRefusal) (title : Title)
    → a ≡ b → unless rest title ≡ Ok title
    → unless (cond (not (party_eq a b)) (Some rule) rest) title ≡ Ok title
acts a b rule rest title same = by (party_eq a b) ((party_eq-Decides a b).1 same)
  where
    by : (c : Bool) → c ≡ true
        → unless rest title ≡ Ok title
        → unless (cond (not c) (Some rule) rest) title ≡ Ok title
    by true e h = h
    by false e h = cc

-- the rule on what is handed on doesn't refuse
hands_on : (a b : Party) (title : Title) → (a ≢ b)
    → unless (cond (party_eq a b) (Some F9) None) title ≡ Ok title
hands_on a b title another = by (party_eq a b) (party_eq-Decides a b).0
  where
    by : (c : Bool) → (c ≡ true → a ≡ b) → unless (cond c (Some F9) None) title ≡ Ok title
    by false same = refl
    by true same = absurd (another (same refl))

-- what stands in the table of the transactions that are allowed is what a step makes
makes : (before : Option Title) (kind : Kind) (actor : Party) (recipient : Option Party)
    → (time : Moment) (after : Title)
    → Allows before kind actor recipient after
    → step_title before (record { kind = kind; actor = actor; recipient = recipient; time = time }) ≡ Ok after
makes None Sign actor None time after h = ap Ok (sym h)
makes None Sign actor (Some to) time after h = absurd h
makes None kind actor recipient time after h = absurd h
makes (Some (Signed c)) Issue actor None time after h = absurd h
makes (Some (Signed c)) Issue actor (Some to) time after h =
    acts actor c _ _ (Live c to to) h.0 refl ∙ ap Ok (sym h.1)
makes (Some (Signed c)) kind actor recipient time after h = absurd h
makes (Some (Live c p h)) Endorse actor None time after e = absurd e
makes (Some (Live c p h)) Endorse actor (Some to) time after e =
    let live : Title = Live c p to in
    acts actor p _ _ live e.0 (acts actor h _ _ live e.1 (hands_on to actor live e.2)) ∙ ap Ok (sym e.3)
makes (Some (Live c p h)) Transfer actor None time after e = absurd e
makes (Some (Live c p h)) Transfer actor (Some to) time after e =
    acts actor p _ _ (Live c to h) e.0 (hands_on to actor (Live c to h) e.1) ∙ ap Ok (sym e.2)
makes (Some (Live c p h)) SurrenderForDelivery actor None time after e =
    let asked : Title = Asked SurrenderForDelivery c actor in
    acts actor p _ _ asked e.0 (acts actor h _ _ asked e.1 refl) ∙ ap Ok (sym e.2)
makes (Some (Live c p h)) SurrenderForDelivery actor (Some to) time after e = absurd e
makes (Some (Live c p h)) SurrenderForAmendment actor None time after e =
    let asked : Title = Asked SurrenderForAmendment c actor in
    acts actor p _ _ asked e.0 (acts actor h _ _ asked e.1 refl) ∙ ap Ok (sym e.2)
makes (Some (Live c p h)) SurrenderForAmendment actor (Some to) time after e = absurd e
makes (Some (Live c p h)) kind actor recipient time after e = absurd e
makes (Some (Asked asked c by)) SurrenderAccepted actor None time after h =
    acts actor c _ _ (Ended asked c) h.0 refl ∙ ap Ok (sym h.1)
makes (Some (Asked asked c by)) SurrenderAccepted actor (Some to) time after h = absurd h
makes (Some (Asked asked c by)) SurrenderRefused actor None time after h =
    acts actor c _ _ (Live c by by) h.0 refl ∙ ap Ok (sym h.1)
makes (Some (Asked asked c by)) SurrenderRefused actor (Some to) time after h = absurd h
makes (Some (Asked asked c by)) kind actor recipient time after h = absurd h
makes (Some (Ended asked c)) kind actor recipient time after h = absurd h

-- a step makes a title if and only if the transaction is allowed
pub step_title-allowed : (before : Option Title) (t : Transaction) (after : Title)
    → step_title before t ≡ Ok after
    → IsAllowed before t after
step_title-allowed before t after = takes before t.kind t.actor t.recipient t.time after

pub allowed-step_title : (before : Option Title) (t : Transaction) (after : Title)
    → IsAllowed before t after
    → step_title before t ≡ Ok after
allowed-step_title before t after = makes before t.kind t.actor t.recipient t.time after
