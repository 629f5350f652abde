-- How a bill stands after one record more.
use Rattle.std.proofs.Common.{◌≡◌, ℕ, ◌+◌, ◌<◌, suc, Bool, true, false, ◌||◌, List, [], ◌∷◌, ◌++◌, length, refl, sym, ap, subst, ◌∙◌, inl, inr, arith}
use Rattle.std.specs.Prelude.{◌⊎◌, Option, Some, None, Ok, option_map, if◌then◌else◌, count_by, cond}
use Rattle.std.specs.List.{list_any}
use Rattle.std.specs.Option.{option_to_list}
use Rattle.std.proofs.lemmas.List.{append_assoc}
use Rattle.std.proofs.lemmas.List.Sums.{sum_by-cons}
use Rattle.ebl_base.specs.Checksum.{checksum_eq}
use Rattle.ebl_base.specs.declared.chain.ChainLink.{ChainLink}
use Rattle.ebl_base.specs.declared.checksum.Checksum.{Checksum}
use Rattle.ebl_base.specs.declared.platform_code.PlatformCode.{PlatformCode}
use Rattle.ebl_base.specs.declared.signed_text.SignedText.{SignedText}
use Rattle.ebl_base.specs.declared.transaction.Transaction.{Transaction}
use Rattle.envelope_manifest.specs.declared.manifest.Manifest.{Manifest}
use Rattle.title_fold.specs.Fold.{fold}
use Rattle.bill_chain.specs.Chain.{transactions_of, has_entry, platform_with}
use Rattle.bill_chain.proofs.TitleLemmas.{transactions_of-push}
use Rattle.bill_diary.specs.declared.record.Record.{Record}
use Rattle.bill_diary.specs.declared.record.Record.TheVariants.{Signed, Acted, Parted, Settled, Regained, Taken}
use Rattle.bill_diary.specs.declared.bill_place.BillPlace.{BillPlace}
use Rattle.bill_diary.specs.declared.bill_place.BillPlace.TheVariants.{Held, Parting, Gone}
use Rattle.bill_diary.specs.Known.{known, told, longer, longest, settled_chain}
use Rattle.bill_diary.specs.Place.{place_of, parting, is_left, is_over, last_parted, since, is_settled, is_regained, taken_chains}
use Rattle.bill_diary.specs.Receiving.{continues}
use Rattle.bill_diary.specs.Sound.{MaySign, MayAct, MayPart, IsParting, MayTake, is_parted}
use Rattle.closed_family.specs.Chains.{IsAmong, IsPrefix, AreAmong, NamesDetermineLinks}
use Rattle.closed_family.specs.Histories.{is_signed, PartedOn}
use Rattle.closed_family.proofs.Names.{checksum_eq-same, checksum_eq-itself, checksum_eq-of, or_cases, or_left, or_right, not_both}
use Rattle.closed_family.proofs.Chains.{HasLast, from_the_end, prefix_of, prefix_trans, push_prefix, prefix_length, push_length}
use Rattle.closed_family.proofs.Linked.{among_append, has_entry-prefix, GoesBeyond, beyond}
use Rattle.closed_family.proofs.Places.{longer_new, no_parting, still_parting, parting_over, parting_is_open, closed_cases, place_held, place_parting, place_gone, left_push}
use Rattle.closed_family.proofs.Standing.{attempts, IsOn, CameBy, HasLeft, Fate, was_regained, went_on, is_parting, SomeParted, StandsHeld, StandsParting, StandsGone, StandsBy, IsUnknown, Stands, stands_held, stands_parting, gone_is_left}
use Rattle.closed_family.proofs.Titles.{on_sign, on_more, MovesTo, moves_away, on_destination, on_none_since}
use Rattle.closed_family.proofs.Received.{IsReceived, received, taken_first, told_first}
use Rattle.closed_family.proofs.Parted.{AreReceived, came_ours, not_left, not_over}

-- ---- a Signed

pub step_signed : (links : List ChainLink) (me : PlatformCode) (h : List Record) (bill : Checksum) (document : List ℕ)
    (t : Transaction)
    → IsUnknown h → MaySign me h bill document t
    → StandsBy links me (Signed bill document t ∷ h) []
step_signed links me h bill document t u may =
    let now : List Record = Signed bill document t ∷ h in
    let made : since now ≡ t ∷ [] = ap (λ (ts : List Transaction). ts ++ t ∷ []) u.none_since in
    record {
      known_is = ap (λ (k : Option (List ChainLink)). Some (longer [] k)) u.known_is;
      taken_under = λ c among. absurd (subst (IsAmong c) u.none_taken among);
      left = λ J e parted. absurd (u.none_left J e parted);
      left_under = λ J e parted. absurd (u.none_left J e parted);
      fate = λ J e parted. absurd (u.none_left J e parted);
      settled = λ n there. absurd (not_both there (u.none_settled n));
      regained = λ n there. absurd (not_both there (u.none_regained n));
      stands = inl (record {
        none = no_parting now u.none_parted;
        stays = refl;
        came = inl (refl, refl);
        titled = subst (IsOn me) (sym made) (on_sign me t may.kind may.recipient may.actor);
      });
    }

-- ---- an Acted

pub step_acted : (links : List ChainLink) (me : PlatformCode) (h : List Record) (bill : Checksum) (t : Transaction)
    → Stands links me h → (may : MayAct h t)
    → StandsBy links me (Acted bill t ∷ h) may.known
step_acted links me h bill t s may =
    let there = stands_held links me h may.known may.since s may.held in
    let b = there.0 in
    let held = there.1 in
    let folds : fold (transactions_of may.known ++ since h) ≡ Ok may.before
    = subst (λ (made : List Transaction). fold (transactions_of may.known ++ made) ≡ Ok may.before)
    (sym there.2) may.title in
    let more : IsOn me (transactions_of may.known ++ since h ++ t ∷ [])
    = on_more me (transactions_of may.known ++ since h) t may.before may.after held.titled folds may.allowed may.stays in
    record {
      known_is = b.known_is;
      taken_under = b.taken_under;
      left = b.left;
      left_under = b.left_under;
      fate = b.fate;
      settled = b.settled;
      regained = b.regained;
      stands = inl (record {
        none = held.none;
        stays = held.stays;
        came = held.came;
        titled = subst (IsOn me) (append_assoc (transactions_of may.known) (since h) (t ∷ [])) more;
      });
    }

-- ---- a Parted

attempts_counted : (h : List Record) → count_by is_parted h ≡ attempts h
attempts_counted [] = refl
attempts_counted (Parted bill link manifest text ∷ h) =
    sum_by-cons (λ (r : Record). cond (is_parted r) 1 0) (Parted bill link manifest text) h
    ∙ ap (λ (n : ℕ). 1 + n) (attempts_counted h) ∙ one_more_than (attempts h)
  where
    one_more_than : (n : ℕ) → 1 + n ≡ suc n
    one_more_than n = omega arith
attempts_counted (r ∷ h) =
    sum_by-cons (λ (x : Record). cond (is_parted x) 1 0) r h
    ∙ ap (λ (n : ℕ). 0 + n) (attempts_counted h) ∙ none_more_than (attempts h)
  where
    none_more_than : (n : ℕ) → 0 + n ≡ n
    none_more_than n = omega arith

later : (links : List ChainLink) (me : PlatformCode) (signed : Bool) (taken : List (List ChainLink)) (count : ℕ)
    (J : List ChainLink) (e : ChainLink)
    → HasLeft links me signed taken count J e → HasLeft links me signed taken (suc count) J e
later links me signed taken count J e left =
    let attempt = left.attempt in
    record {
      among = left.among;
      platform = left.platform;
      previous = left.previous;
      attempt = omega arith;
      to = left.to;
      goes = left.goes;
      away = left.away;
      came = left.came;
    }

no_link : {a : ChainLink} → None ≡ Some a → ⊥
no_link h = cc

still : (regained : Bool) (J K : List ChainLink) (before now : Option ChainLink) (e : ChainLink)
    → before ≡ None → Fate regained J K before e → Fate regained J K now e
still regained J K before now e none (was_regained r) = was_regained r
still regained J K before now e none (went_on l) = went_on l
still regained J K before now e none (is_parting p) = absurd (no_link (sym none ∙ p))

pub step_parted : (links : List ChainLink) (me : PlatformCode) (h : List Record) (bill : Checksum) (link : ChainLink)
    (manifest : Manifest) (text : SignedText)
    → NamesDetermineLinks links → AreReceived links me (taken_chains h) → IsAmong link links
    → Stands links me h → (may : MayPart me h bill link manifest text)
    → StandsBy links me (Parted bill link manifest text ∷ h) may.known
step_parted links me h bill link manifest text named received among s may =
    record {
      known_is = b.known_is;
      taken_under = b.taken_under;
      left = left;
      left_under = left_under;
      fate = fate;
      settled = λ n there. before n (b.settled n there);
      regained = λ n there. before n (b.regained n there);
      stands = inr (inl (record {
        entry = link;
        one = still_parting now link refl
            (not_over links me h K named received b held.came link among may.previous
            (may.attempt ∙ ap (λ (n : ℕ). n + 1) (attempts_counted h)));
        stays = held.stays;
        came = held.came;
        titled = held.titled;
        parted = inl (refl, b.known_is);
        told = told_now;
        last = may.last;
        transactions = may.transactions ∙ ap (λ (ts : List Transaction). ts ++ may.last ∷ []) (sym there.2);
      }));
    }
  where
    K : List ChainLink
    K = may.known

    now : List Record
    now = Parted bill link manifest text ∷ h

    there : StandsBy links me h may.known × StandsHeld me h may.known × (since h ≡ may.since)
    there = stands_held links me h may.known may.since s may.held

    b : StandsBy links me h may.known
    b = there.0

    held : StandsHeld me h may.known
    held = there.1

    moving : MovesTo me (transactions_of may.known ++ since h ++ may.last ∷ [])
    moving = moves_away me (transactions_of may.known ++ since h) may.last may.before may.after held.titled
        (subst (λ (made : List Transaction). fold (transactions_of may.known ++ made) ≡ Ok may.before)
        (sym there.2) may.title)
        may.allowed may.moved

    whole : transactions_of may.known ++ since h ++ may.last ∷ [] ≡ transactions_of (may.known ++ link ∷ [])
    whole =
        append_assoc (transactions_of may.known) (since h) (may.last ∷ [])
        ∙ ap (λ (ts : List Transaction). transactions_of may.known ++ (ts ++ may.last ∷ [])) there.2
        ∙ ap (λ (ts : List Transaction). transactions_of may.known ++ ts) (sym may.transactions)
        ∙ sym (transactions_of-push may.known link)

    new : HasLeft links me (is_signed h) (taken_chains h) (suc (attempts h)) may.known link
    new =
        let attempt = may.attempt ∙ ap (λ (n : ℕ). n + 1) (attempts_counted h) in
        record {
          among = among;
          platform = may.platform;
          previous = may.previous;
          attempt = omega arith;
          to = moving.to;
          goes = ap (λ (ts : List Transaction). platform_with (fold ts)) (sym whole) ∙ moving.goes;
          away = moving.away;
          came = held.came;
        }

    same_known : (J : List ChainLink) → known h ≡ Some J → may.known ≡ J
    same_known J k = let two = sym b.known_is ∙ k in cc two

    left : (J : List ChainLink) (e : ChainLink) → PartedOn J e now
        → HasLeft links me (is_signed h) (taken_chains h) (suc (attempts h)) J e
    left J e (inl (one, k)) =
        subst (λ (x : ChainLink). HasLeft links me (is_signed h) (taken_chains h) (suc (attempts h)) J x) one
        (subst (λ (x : List ChainLink). HasLeft links me (is_signed h) (taken_chains h) (suc (attempts h)) x link)
        (same_known J k) new)
    left J e (inr old) = later links me (is_signed h) (taken_chains h) (attempts h) J e (b.left J e old)

    left_under : (J : List ChainLink) (e : ChainLink) → PartedOn J e now → IsPrefix J may.known
    left_under J e (inl (one, k)) = prefix_of J may.known (sym (same_known J k))
    left_under J e (inr old) = b.left_under J e old

    fate : (J : List ChainLink) (e : ChainLink) → PartedOn J e now
        → Fate (is_regained e.name h) J may.known (parting now) e
    fate J e (inl (one, k)) =
        is_parting (still_parting now link refl
        (not_over links me h may.known named received b held.came link among may.previous
        (may.attempt ∙ ap (λ (n : ℕ). n + 1) (attempts_counted h))) ∙ ap Some one)
    fate J e (inr old) = still (is_regained e.name h) J may.known (parting h) (parting now) e held.none (b.fate J e old)

    before : (n : Checksum) → SomeParted n (λ (J : List ChainLink) (e : ChainLink). PartedOn J e h)
        → SomeParted n (λ (J : List ChainLink) (e : ChainLink). PartedOn J e now)
    before n p = record { before = p.before; entry = p.entry; named = p.named; parted = inr p.parted }

    told_now : settled_chain link.name now ≡ Some (may.known ++ link ∷ [])
    told_now =
        ap (λ (here : Bool). if here then option_map (λ (k : List ChainLink). k ++ link ∷ [])
        (known h) else settled_chain link.name h)
        (checksum_eq-itself link.name)
        ∙ ap (option_map (λ (k : List ChainLink). k ++ link ∷ [])) b.known_is

-- ---- a Settled

pub step_settled : (links : List ChainLink) (me : PlatformCode) (h : List Record) (bill entry : Checksum)
    → Stands links me h → (may : IsParting h entry)
    → StandsBy links me (Settled bill entry ∷ h) (may.known ++ may.link ∷ [])
step_settled links me h bill entry s may =
    record {
      known_is = known_now;
      taken_under = λ c among. prefix_trans c may.known (may.known ++ may.link ∷ []) (b.taken_under c among)
          (push_prefix may.known may.link);
      left = b.left;
      left_under = λ J e parted. prefix_trans J may.known (may.known ++ may.link ∷ []) (b.left_under J e parted)
          (push_prefix may.known may.link);
      fate = λ J e parted. went_on (shorter J (b.left_under J e parted));
      settled = settled;
      regained = b.regained;
      stands = inr (inr (record {
        none = parting_over now may.link last_is over;
        front = may.known;
        entry = may.link;
        parts = refl;
        parted = parted;
        settled = settled_now;
      }));
    }
  where
    now : List Record
    now = Settled bill entry ∷ h

    there : StandsBy links me h may.known × ((p : StandsParting me h may.known) × (p.entry ≡ may.link))
    there = stands_parting links me h may.known may.link s may.parting

    b : StandsBy links me h may.known
    b = there.0

    here : checksum_eq entry may.link.name ≡ true
    here = checksum_eq-of entry may.link.name (sym may.names)

    parted : PartedOn may.known may.link h
    parted = subst (λ (x : ChainLink). PartedOn may.known x h) there.1.1 there.1.0.parted

    last_is : last_parted h ≡ Some may.link
    last_is = subst (λ (x : ChainLink). last_parted h ≡ Some x) there.1.1
        (parting_is_open h there.1.0.entry there.1.0.one).last

    told_then : settled_chain entry h ≡ Some (may.known ++ may.link ∷ [])
    told_then =
        subst (λ (n : Checksum). settled_chain n h ≡ Some (may.known ++ may.link ∷ [])) may.names
        (subst (λ (x : ChainLink). settled_chain x.name h ≡ Some (may.known ++ x ∷ [])) there.1.1 there.1.0.told)

    known_now : known now ≡ Some (may.known ++ may.link ∷ [])
    known_now =
        let more = push_length may.known may.link in
        ap (λ (o : Option (List ChainLink)). longest (option_to_list o ++ told h)) told_then
        ∙ ap (λ (k : Option (List ChainLink)). Some (longer (may.known ++ may.link ∷ []) k)) b.known_is
        ∙ ap Some (longer_new (may.known ++ may.link ∷ []) may.known (omega arith))

    shorter : (J : List ChainLink) → IsPrefix J may.known → length J < length (may.known ++ may.link ∷ [])
    shorter J p =
        let more = push_length may.known may.link in
        let most = prefix_length J may.known p in
        omega arith

    settled_now : is_settled may.link.name now ≡ true
    settled_now = or_left (checksum_eq entry may.link.name) (is_settled may.link.name h) here

    over : is_over may.link.name now ≡ true
    over =
        or_left (is_settled may.link.name now || is_regained may.link.name h)
        (list_any (has_entry may.link.name) (taken_chains h))
        (or_left (is_settled may.link.name now) (is_regained may.link.name h) settled_now)

    settled : (n : Checksum) → is_settled n now ≡ true
        → SomeParted n (λ (J : List ChainLink) (e : ChainLink). PartedOn J e h)
    settled n yes_it_is = on_first (or_cases (checksum_eq entry n) (is_settled n h) yes_it_is)
      where
        on_first : (checksum_eq entry n ≡ true) ⊎ (is_settled n h ≡ true)
            → SomeParted n (λ (J : List ChainLink) (e : ChainLink). PartedOn J e h)
        on_first (inl first) = record {
          before = may.known;
          entry = may.link;
          named = may.names ∙ checksum_eq-same entry n first;
          parted = parted;
        }
        on_first (inr old) = b.settled n old

-- ---- a Regained

pub step_regained : (links : List ChainLink) (me : PlatformCode) (h : List Record) (bill entry : Checksum)
    → Stands links me h → (may : IsParting h entry)
    → StandsBy links me (Regained bill entry ∷ h) may.known
step_regained links me h bill entry s may =
    record {
      known_is = b.known_is;
      taken_under = b.taken_under;
      left = b.left;
      left_under = b.left_under;
      fate = λ J e parted. fate_now J e (b.fate J e parted);
      settled = b.settled;
      regained = regained;
      stands = inl (record {
        none = parting_over now may.link last_is over;
        stays = there.1.0.stays;
        came = there.1.0.came;
        titled = there.1.0.titled;
      });
    }
  where
    now : List Record
    now = Regained bill entry ∷ h

    there : StandsBy links me h may.known × ((p : StandsParting me h may.known) × (p.entry ≡ may.link))
    there = stands_parting links me h may.known may.link s may.parting

    b : StandsBy links me h may.known
    b = there.0

    here : checksum_eq entry may.link.name ≡ true
    here = checksum_eq-of entry may.link.name (sym may.names)

    parted : PartedOn may.known may.link h
    parted = subst (λ (x : ChainLink). PartedOn may.known x h) there.1.1 there.1.0.parted

    last_is : last_parted h ≡ Some may.link
    last_is = subst (λ (x : ChainLink). last_parted h ≡ Some x) there.1.1
        (parting_is_open h there.1.0.entry there.1.0.one).last

    regained_now : is_regained may.link.name now ≡ true
    regained_now = or_left (checksum_eq entry may.link.name) (is_regained may.link.name h) here

    over : is_over may.link.name now ≡ true
    over =
        or_left (is_settled may.link.name h || is_regained may.link.name now)
        (list_any (has_entry may.link.name) (taken_chains h))
        (or_right (is_settled may.link.name h) (is_regained may.link.name now) regained_now)

    regained : (n : Checksum) → is_regained n now ≡ true
        → SomeParted n (λ (J : List ChainLink) (e : ChainLink). PartedOn J e h)
    regained n yes_it_is = on_first (or_cases (checksum_eq entry n) (is_regained n h) yes_it_is)
      where
        on_first : (checksum_eq entry n ≡ true) ⊎ (is_regained n h ≡ true)
            → SomeParted n (λ (J : List ChainLink) (e : ChainLink). PartedOn J e h)
        on_first (inl first) = record {
          before = may.known;
          entry = may.link;
          named = may.names ∙ checksum_eq-same entry n first;
          parted = parted;
        }
        on_first (inr old) = b.regained n old

    fate_now : (J : List ChainLink) (e : ChainLink) → Fate (is_regained e.name h) J may.known (parting h) e
        → Fate (is_regained e.name now) J may.known (parting now) e
    fate_now J e (was_regained r) = was_regained (or_right (checksum_eq entry e.name) (is_regained e.name h) r)
    fate_now J e (went_on l) = went_on l
    fate_now J e (is_parting p) =
        let two = sym there.1.0.one ∙ p in
        let one : there.1.0.entry ≡ e = cc two in
        let same : may.link.name ≡ e.name = ap (λ (x : ChainLink). x.name) (sym there.1.1 ∙ one) in
        was_regained
        (or_left (checksum_eq entry e.name) (is_regained e.name h)
        (checksum_eq-of entry e.name (sym may.names ∙ same)))

-- ---- a Taken

-- an entry that left is one still, where one more chain is taken
wider : (links : List ChainLink) (me : PlatformCode) (signed : Bool) (taken more : List (List ChainLink))
    (c : List ChainLink) (count : ℕ)
    (J : List ChainLink) (e : ChainLink)
    → more ≡ c ∷ taken
    → HasLeft links me signed taken count J e → HasLeft links me signed more count J e
wider links me signed taken more c count J e is left = record {
  among = left.among;
  platform = left.platform;
  previous = left.previous;
  attempt = left.attempt;
  to = left.to;
  goes = left.goes;
  away = left.away;
  came = on_came left.came;
}
  where
    on_came : CameBy signed taken J → CameBy signed more J
    on_came (inl empty) = inl empty
    on_came (inr among) = inr (subst (IsAmong J) (sym is) (inr among))

-- a bill that was unknown
step_taken_unknown : (links : List ChainLink) (me : PlatformCode) (h : List Record) (bill entry : Checksum)
    → IsUnknown h → (may : MayTake me h h entry)
    → IsReceived links me may.begun.chain
    → StandsBy links me (Taken bill entry ∷ h) may.begun.chain
step_taken_unknown links me h bill entry u may r =
    record {
      known_is =
          ap longest (told_first bill entry h may.begun may.begun_is)
          ∙ ap (λ (k : Option (List ChainLink)). Some (longer c k)) u.known_is;
      taken_under = λ d among. under d (subst (IsAmong d) first among);
      left = λ J e parted. absurd (u.none_left J e parted);
      left_under = λ J e parted. absurd (u.none_left J e parted);
      fate = λ J e parted. absurd (u.none_left J e parted);
      settled = λ n there. absurd (not_both there (u.none_settled n));
      regained = λ n there. absurd (not_both there (u.none_regained n));
      stands = inl (record {
        none = no_parting now u.none_parted;
        stays = stays (from_the_end c);
        came = inr (subst (IsAmong c) (sym first) (inl refl));
        titled = on_none_since me (transactions_of c) (on_destination me c r.here);
      });
    }
  where
    now : List Record
    now = Taken bill entry ∷ h

    c : List ChainLink
    c = may.begun.chain

    first : taken_chains now ≡ c ∷ taken_chains h
    first = taken_first bill entry h may.begun may.begun_is

    under : (d : List ChainLink) → IsAmong d (c ∷ taken_chains h) → IsPrefix d c
    under d (inl same) = prefix_of d c (sym same)
    under d (inr old) = absurd (subst (IsAmong d) u.none_taken old)

    stays : (c ≡ []) ⊎ HasLast c → is_left c now ≡ false
    stays (inl none) = ap (λ (x : List ChainLink). is_left x now) none
    stays (inr l) = ap (λ (x : List ChainLink). is_left x now) l.parts ∙ left_push l.front l.last now
        ∙ u.none_settled l.last.name

-- a bill that was known, by a chain beyond which the new one goes
step_taken_known : (links : List ChainLink) (me : PlatformCode) (h : List Record) (bill entry : Checksum)
    (K : List ChainLink)
    → NamesDetermineLinks links → AreReceived links me (taken_chains h)
    → StandsBy links me h K → (may : MayTake me h h entry)
    → IsReceived links me may.begun.chain
    → GoesBeyond K may.begun.chain
    → ((e : ChainLink) → last_parted h ≡ Some e
    → (is_over e.name h ≡ true) ⊎ (has_entry e.name may.begun.chain ≡ true))
    → StandsBy links me (Taken bill entry ∷ h) may.begun.chain
step_taken_known links me h bill entry K named received b may r further over =
    record {
      known_is =
          ap longest (told_first bill entry h may.begun may.begun_is)
          ∙ ap (λ (k : Option (List ChainLink)). Some (longer c k)) b.known_is
          ∙ ap Some (longer_new c K (prefix_length K c further.prefix));
      taken_under = λ d among. under d (subst (IsAmong d) first among);
      left = λ J e parted. wider links me (is_signed h) (taken_chains h) (taken_chains now) c (attempts h) J e first
          (b.left J e parted);
      left_under = λ J e parted. prefix_trans J K c (b.left_under J e parted) further.prefix;
      fate = λ J e parted. went_on (shorter J (b.left_under J e parted));
      settled = b.settled;
      regained = b.regained;
      stands = inl (record {
        none = none_now (last_parted h) refl;
        stays = not_left links me h K named received b c r;
        came = inr (subst (IsAmong c) (sym first) (inl refl));
        titled = on_none_since me (transactions_of c) (on_destination me c r.here);
      });
    }
  where
    now : List Record
    now = Taken bill entry ∷ h

    c : List ChainLink
    c = may.begun.chain

    first : taken_chains now ≡ c ∷ taken_chains h
    first = taken_first bill entry h may.begun may.begun_is

    under : (d : List ChainLink) → IsAmong d (c ∷ taken_chains h) → IsPrefix d c
    under d (inl same) = prefix_of d c (sym same)
    under d (inr old) = prefix_trans d K c (b.taken_under d old) further.prefix

    shorter : (J : List ChainLink) → IsPrefix J K → length J < length c
    shorter J p = let most = prefix_length J K p in let more = further.longer in omega arith

    any_now : (e : ChainLink) → list_any (has_entry e.name) (c ∷ taken_chains h) ≡ true
        → list_any (has_entry e.name) (taken_chains now) ≡ true
    any_now e h = subst (λ (x : List (List ChainLink)). list_any (has_entry e.name) x ≡ true) (sym first) h

    over_now : (e : ChainLink) → (is_over e.name h ≡ true) ⊎ (has_entry e.name c ≡ true) → is_over e.name now ≡ true
    over_now e (inl was) = on_cases
        (or_cases (is_settled e.name h || is_regained e.name h) (list_any (has_entry e.name) (taken_chains h)) was)
      where
        on_cases : ((is_settled e.name h || is_regained e.name h) ≡ true) ⊎
            (list_any (has_entry e.name) (taken_chains h) ≡ true)
            → is_over e.name now ≡ true
        on_cases (inl ended) =
            or_left (is_settled e.name h || is_regained e.name h) (list_any (has_entry e.name) (taken_chains now)) ended
        on_cases (inr along) =
            or_right (is_settled e.name h || is_regained e.name h) (list_any (has_entry e.name) (taken_chains now))
            (any_now e (or_right (has_entry e.name c) (list_any (has_entry e.name) (taken_chains h)) along))
    over_now e (inr along) =
        or_right (is_settled e.name h || is_regained e.name h) (list_any (has_entry e.name) (taken_chains now))
        (any_now e (or_left (has_entry e.name c) (list_any (has_entry e.name) (taken_chains h)) along))

    none_now : (l : Option ChainLink) → last_parted h ≡ l → parting now ≡ None
    none_now None last = no_parting now last
    none_now (Some e) last = parting_over now e last (over_now e (over e last))

-- a chain that is taken goes beyond what is known
pub goes_further : (links : List ChainLink) (me : PlatformCode) (h : List Record) (bill entry : Checksum)
    (K : List ChainLink)
    → NamesDetermineLinks links → AreReceived links me (taken_chains h)
    → StandsBy links me h K → (may : MayTake me h h entry)
    → IsReceived links me may.begun.chain
    → GoesBeyond K may.begun.chain
goes_further links me h bill entry K named received b may r = by_stand b.stands
  where
    goes : (p : BillPlace) → place_of h ≡ p → continues p may.begun.chain ≡ true
    goes p e = subst (λ (x : BillPlace). continues x may.begun.chain ≡ true) e may.receives.continues_place

    by_stand : StandsHeld me h K ⊎ StandsParting me h K ⊎ StandsGone h K → GoesBeyond K may.begun.chain
    by_stand (inl held) =
        let refused = goes (Held K (since h)) (place_held h K b.known_is held.none held.stays) in
        cc refused
    by_stand (inr (inl parts)) =
        let ours = came_ours links me (is_signed h) (taken_chains h) K received parts.came in
        let left = b.left K parts.entry parts.parted in
        let whole = among_append K (parts.entry ∷ []) links ours.among (left.among, tt) in
        let further = beyond links named (K ++ parts.entry ∷ []) may.begun.chain whole r.among
        (goes (Parting K parts.entry) (place_parting h K parts.entry b.known_is parts.one)) in
        let more = push_length K parts.entry in
        let longer_than = further.longer in
        record {
          prefix = prefix_trans K (K ++ parts.entry ∷ []) may.begun.chain (push_prefix K parts.entry) further.prefix;
          longer = omega arith;
        }
    by_stand (inr (inr gone)) =
        let left = b.left gone.front gone.entry gone.parted in
        let ours = came_ours links me (is_signed h) (taken_chains h) gone.front received left.came in
        let whole = among_append gone.front (gone.entry ∷ []) links ours.among (left.among, tt) in
        let known_among : AreAmong K links = subst (λ (x : List ChainLink). AreAmong x links) (sym gone.parts) whole in
        beyond links named K may.begun.chain known_among r.among
        (goes (Gone K) (place_gone h K b.known_is gone.none (gone_is_left h K gone)))

pub step_taken : (links : List ChainLink) (me : PlatformCode) (h : List Record) (bill entry : Checksum)
    → NamesDetermineLinks links → AreReceived links me (taken_chains h)
    → Stands links me h → (may : MayTake me h h entry)
    → IsReceived links me may.begun.chain
    → StandsBy links me (Taken bill entry ∷ h) may.begun.chain
step_taken links me h bill entry named received (inl u) may r = step_taken_unknown links me h bill entry u may r
step_taken links me h bill entry named received (inr s) may r = by_stand s.1.stands
  where
    K : List ChainLink
    K = s.0

    c : List ChainLink
    c = may.begun.chain

    b : StandsBy links me h s.0
    b = s.1

    goes : (p : BillPlace) → place_of h ≡ p → continues p may.begun.chain ≡ true
    goes p e = subst (λ (x : BillPlace). continues x may.begun.chain ≡ true) e may.receives.continues_place

    by_stand : StandsHeld me h s.0 ⊎ StandsParting me h s.0 ⊎ StandsGone h s.0
        → StandsBy links me (Taken bill entry ∷ h) may.begun.chain
    by_stand (inl held) =
        let refused = goes (Held s.0 (since h)) (place_held h s.0 s.1.known_is held.none held.stays) in
        cc refused
    by_stand (inr (inl parts)) =
        let ours = came_ours links me (is_signed h) (taken_chains h) s.0 received parts.came in
        let left = s.1.left s.0 parts.entry parts.parted in
        let whole = among_append s.0 (parts.entry ∷ []) links ours.among (left.among, tt) in
        let further = beyond links named (s.0 ++ parts.entry ∷ []) c whole r.among
        (goes (Parting s.0 parts.entry) (place_parting h s.0 parts.entry s.1.known_is parts.one)) in
        let more = push_length s.0 parts.entry in
        let longer_than = further.longer in
        step_taken_known links me h bill entry s.0 named received s.1 may r
        (record {
          prefix = prefix_trans s.0 (s.0 ++ parts.entry ∷ []) c (push_prefix s.0 parts.entry) further.prefix;
          longer = omega arith;
        })
        (λ e last. inr (along e last further.prefix))
      where
        along : (e : ChainLink) → last_parted h ≡ Some e → IsPrefix (s.0 ++ parts.entry ∷ []) may.begun.chain
            → has_entry e.name may.begun.chain ≡ true
        along e last p =
            let two = sym (parting_is_open h parts.entry parts.one).last ∙ last in
            let one : parts.entry ≡ e = cc two in
            subst (λ (x : ChainLink). has_entry x.name may.begun.chain ≡ true) one
            (has_entry-prefix s.0 parts.entry may.begun.chain p)
    by_stand (inr (inr gone)) =
        let further = goes_further links me h bill entry s.0 named received s.1 may r in
        step_taken_known links me h bill entry s.0 named received s.1 may r further
        (λ e last. inl (over_then e last (closed_cases h gone.none)))
      where
        over_then : (e : ChainLink) → last_parted h ≡ Some e
            → (last_parted h ≡ None) ⊎ ((f : ChainLink) × (last_parted h ≡ Some f) × (is_over f.name h ≡ true))
            → is_over e.name h ≡ true
        over_then e last (inl none) = absurd (no_link (sym none ∙ last))
        over_then e last (inr (f, last_f, over)) =
            let two = sym last_f ∙ last in
            let one : f ≡ e = cc two in
            subst (λ (x : ChainLink). is_over x.name h ≡ true) one over
