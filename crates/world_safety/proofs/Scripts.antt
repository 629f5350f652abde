-- Every run of a script stays safe.
use Rattle.std.proofs.Common.{◌≡◌, inl, inr, ℕ, ◌*◌, ◌≤◌, true, List, [], ◌∷◌, ◌++◌, length, Option, Some, None, Result, Ok, Err, refl, sym, ap, subst, ◌∙◌}
use Rattle.std.specs.Prelude.{◌≢◌, IfSome, codes, false, map, option_and_then, option_map, unwrap_or}
use Rattle.ebl_base.specs.PlatformCode.{code_eq}
use Rattle.ebl_base.specs.Segments.{segments_of}
use Rattle.ebl_base.specs.declared.checksum.Checksum.{Checksum}
use Rattle.ebl_base.specs.declared.code.Code.{Code}
use Rattle.ebl_base.specs.declared.code.Code.TheVariants.{DisputedEnvelope}
use Rattle.ebl_base.specs.declared.evidence.Evidence.{Evidence}
use Rattle.ebl_base.specs.declared.party.Party.{Party}
use Rattle.ebl_base.specs.declared.platform_code.PlatformCode.{PlatformCode}
use Rattle.ebl_base.specs.declared.reason.Reason.{Reason}
use Rattle.ebl_base.specs.declared.reason.Reason.TheVariants as reasons
use Rattle.ebl_base.specs.declared.signed_text.SignedText.{SignedText}
use Rattle.canonical_json.specs.Value.{Value}
use Rattle.canonical_json.specs.Field.{member_of}
use Rattle.canonical_json.specs.Reading.{value_in}
use Rattle.signed_envelope.specs.KeyRing.{Keys}
use Rattle.party_roster.specs.Distinct.{are_distinct}
use Rattle.party_roster.specs.Reading.{roster_of}
use Rattle.party_roster.specs.declared.fault.RosterPlace.{RosterPlace}
use Rattle.party_roster.specs.RosterForm.{IsRoster}
use Rattle.party_roster.specs.RosterRecord.{RosterRecord}
use Rattle.pint_responses.specs.declared.response.Response.{Response}
use Rattle.platform_requests.specs.declared.reply.Reply.TheVariants as replies
use Rattle.bill_diary.specs.declared.frame.Frame.{Frame}
use Rattle.bill_diary.specs.declared.record.Record.TheVariants.{Declined}
use Rattle.bill_diary.specs.History.{IsRecordOf}
use Rattle.bill_diary.specs.Place.{may_act_by, place_of}
use Rattle.transfer_judge.specs.Legal.{IsLegal}
use Rattle.closed_family.specs.declared.family.Member.{Member}
use Rattle.closed_family.specs.Family.{HasDistinctNames, IsClosedFamily, IsSafeFamily, IsSignedIn, IsSoundFamily, histories_of}
use Rattle.closed_family.specs.Later.{IsEndedAt}
use Rattle.closed_family.specs.Longest.{longest_in}
use Rattle.bill_lines.specs.Bills.{end_of, title_of}
use Rattle.platform_world.specs.World as worlds
use Rattle.platform_world.specs.World.{PlatformState, ShardState, WorldRecord, family_of, opening, platforms_of, settled_for, shard_at}
use Rattle.platform_world.specs.Run.{Happened, IsRunOf, OnRoster, Run, RunsLines}
use Rattle.world_events.specs.Script.{if_ok, roster_in}
use Rattle.run_safety.specs.Network as networks
use Rattle.run_safety.specs.Network.{Network, diary_of}
use Rattle.run_safety.specs.Run.{Asked, LeadsTo, Reaches}
use Rattle.run_safety.specs.Steady.{IsSteady, Rings}
use Rattle.world_safety.specs.Safety.{AreHonest, HasEnoughRings, IsEndedIn, IsSafeAfter, IsSafeWorld, StaysSafe}
use Rattle.world_safety.specs.Worlds.{network_of, no_keys, rings_of}
use Rattle.world_safety.proofs.BillLines.{acts_in, end_is, not_forked, title_is}
use Rattle.world_safety.proofs.Ended.{held_signed}
use Rattle.world_safety.proofs.Runs.{GoOn, Holds, IsHonestIn, earlier_holds, holds_after, honest_in, is_reached, opening_holds, runs_go_on}
use Rattle.world_safety.proofs.Undisputed.{event_undisputed}
use Rattle.world_safety.proofs.Worlds.{diary_at}

-- laws of the crates below
pub record Laws : Type 0 where
  pub read : (v : Value) (roster : RosterRecord) → roster_of v ≡ Ok roster → IsRoster roster
  pub apart : (roster : RosterRecord) → IsRoster roster → are_distinct code_eq roster.platforms ≡ true
  pub safe : (roster : RosterRecord) (rings : Rings) (n : Network) → IsRoster roster → Reaches roster rings n
      → HasDistinctNames n.family → IsSafeFamily n.family
  pub sound : (roster : RosterRecord) (rings : Rings) (n : Network) → IsRoster roster → Reaches roster rings n
      → HasDistinctNames n.family → IsSoundFamily n.family
  pub closed : (roster : RosterRecord) (rings : Rings) (n : Network) → IsRoster roster → Reaches roster rings n
      → HasDistinctNames n.family → IsClosedFamily n.family
  pub steady : (roster : RosterRecord) (rings : Rings) (n : Network) → IsRoster roster → Reaches roster rings n
      → HasDistinctNames n.family → IsSteady roster rings n
  pub undisputed : (roster : RosterRecord) (rings : Rings) (n : Network) → IsRoster roster → Reaches roster rings n
      → HasDistinctNames n.family → (asked : Asked roster rings n) (response : Response) (text : SignedText)
      → asked.step.reply ≡ replies.Answer response text → response.code ≢ DisputedEnvelope
  pub declined : (roster : RosterRecord) (rings : Rings) (n : Network) → IsRoster roster → Reaches roster rings n
      → HasDistinctNames n.family → (p : PlatformCode) (i : ℕ) (diary : List Frame) (bill entry : Checksum) (code : Code)
      (reason : Reason) (evidence : Evidence) → diary_of n.family p i ≡ Some diary
      → IsRecordOf diary (Declined bill entry code reason evidence) → reason ≡ reasons.Party
  pub ended : (roster : RosterRecord) (rings : Rings) (n later : Network) → IsRoster roster → Reaches roster rings n
      → LeadsTo roster rings n later → HasDistinctNames later.family → (bill : Checksum) (p : PlatformCode)
      (carrier : Party) → IsEndedAt (place_of (histories_of bill n.family p)) carrier
      → IsEndedAt (place_of (histories_of bill later.family p)) carrier
  pub carrier : (roster : RosterRecord) (rings : Rings) (n : Network) → IsRoster roster → Reaches roster rings n
      → HasDistinctNames n.family → (bill : Checksum) → IsSignedIn n.family bill → (p : PlatformCode) (carrier : Party)
      → IsEndedAt (place_of (histories_of bill n.family p)) carrier → carrier.platform ≡ p
  pub nobody : (roster : RosterRecord) (rings : Rings) (n : Network) → IsRoster roster → Reaches roster rings n
      → HasDistinctNames n.family → (bill : Checksum) → IsSignedIn n.family bill → (p : PlatformCode) (carrier : Party)
      → IsEndedAt (place_of (histories_of bill n.family p)) carrier
      → (q : PlatformCode) → may_act_by (histories_of bill n.family q) ≡ false
  pub line : (family : List Member) (bill : Checksum) (safe : IsSafeFamily family) (signed : IsSignedIn family bill)
      → (safe.bills bill signed).line ≡ longest_in family bill

-- ---- safe worlds

names_are : (states : List PlatformState)
    → map (λ (m : Member). m.platform) (map worlds.member_of states) ≡ map (λ (s : PlatformState). s.platform) states
names_are [] = refl
names_are (state ∷ states) = ap (λ (ps : List PlatformCode). state.platform ∷ ps) (names_are states)

world_safe : Laws → (roster : RosterRecord) (rings : Rings) (w : WorldRecord) → IsRoster roster
    → Holds roster rings (networks.opening roster) w → HasDistinctNames (family_of w) → IsSafeWorld w
world_safe laws roster rings w form holds distinct = record {
  legal = λ p i shard is_there.
      subst (λ (r : RosterRecord). IsLegal r shard.keys p shard.diary) (sym holds.roster_is)
      (subst (λ (k : Keys). IsLegal roster k p shard.diary)
      (sym (holds.keys_are p i)
      ∙ ap (λ (o : Option ShardState). unwrap_or (option_map (λ (s : ShardState). s.keys) o) no_keys) is_there)
      ((laws.steady roster rings (network_of w) form reached distinct).legal p i shard.diary
      (has_diary p i shard is_there)));
  declined = λ p i shard is_there bill entry code reason evidence.
      laws.declined roster rings (network_of w) form reached distinct p i shard.diary bill entry code reason evidence
      (has_diary p i shard is_there);
  sound = sound;
  closed = closed;
  safe = safe;
  forked = λ bill signed.
      not_forked (histories_of bill (family_of w)) (safe.bills bill signed) signed.0 signed.1 (platforms_of w);
  acts = λ bill signed p among.
      ap (end_of (histories_of bill (family_of w))) (sym (names_are w.platforms))
      ∙ acts_in (family_of w) sound closed distinct bill (safe.bills bill signed)
      (laws.line (family_of w) bill safe signed) signed (settled_for bill w) p among;
  titled = λ bill signed.
      let one = safe.bills bill signed in (
        one.title_there.title,
        ap (title_of (histories_of bill (family_of w))) (sym (names_are w.platforms))
            ∙ title_is (family_of w) sound closed distinct bill one (laws.line (family_of w) bill safe signed),
        ap (end_of (histories_of bill (family_of w))) (sym (names_are w.platforms))
            ∙ end_is (family_of w) sound closed distinct bill one (laws.line (family_of w) bill safe signed)
            ∙ ap Some (sym one.title_there.on),
      );
  ended_there = λ bill p carrier ended.
      laws.carrier roster rings (network_of w) form reached distinct bill (ended_signed bill p carrier ended) p carrier
      ended;
  nobody = λ bill p carrier ended.
      laws.nobody roster rings (network_of w) form reached distinct bill (ended_signed bill p carrier ended) p carrier
      ended;
}
  where
    reached : Reaches roster rings (network_of w)
    reached = is_reached roster rings w holds

    sound : IsSoundFamily (family_of w)
    sound = laws.sound roster rings (network_of w) form reached distinct

    closed : IsClosedFamily (family_of w)
    closed = laws.closed roster rings (network_of w) form reached distinct

    safe : IsSafeFamily (family_of w)
    safe = laws.safe roster rings (network_of w) form reached distinct

    has_diary : (p : PlatformCode) (i : ℕ) (shard : ShardState) → shard_at p i w.platforms ≡ Some shard
        → diary_of (family_of w) p i ≡ Some shard.diary
    has_diary p i shard is_there =
        diary_at p i w.platforms ∙ ap (option_map (λ (s : ShardState). s.diary)) is_there

    ended_signed : (bill : Checksum) (p : PlatformCode) (carrier : Party) → IsEndedIn w bill p carrier
        → IsSignedIn (family_of w) bill
    ended_signed bill p carrier ended =
        held_signed (family_of w) sound closed distinct bill p ended.known ended.since ended.held

-- ---- the first line

roster_form : Laws → (line : List ℕ) (roster : RosterRecord) → roster_in line ≡ Some roster → IsRoster roster
roster_form laws line roster is = on_value (if_ok (value_in line)) is
  where
    on_roster : (v : Value) (r : Result RosterRecord RosterPlace) → roster_of v ≡ r → if_ok r ≡ Some roster → IsRoster roster
    on_roster v (Ok given) read found =
        let same : given ≡ roster = cc found in
        subst IsRoster same (laws.read v given read)
    on_roster v (Err fault) read found = cc found

    on_member : (o : Option Value) → option_and_then (λ (v : Value). if_ok (roster_of v)) o ≡ Some roster
        → IsRoster roster
    on_member None found = cc found
    on_member (Some v) found = on_roster v (roster_of v) refl found

    on_value : (o : Option Value)
        → option_and_then (λ (v : Value). option_and_then (λ (r : Value). if_ok (roster_of r)) (member_of (codes "roster") v)) o
        ≡ Some roster → IsRoster roster
    on_value None found = cc found
    on_value (Some v) found = on_member (member_of (codes "roster") v) found

-- ---- runs

nothing_happened : (run : Run) → run.happened ≡ [] → StaysSafe run
nothing_happened run none = λ front h rest is honest distinct. absurd (never front h rest (sym is ∙ none))
  where
    never : (front : List Happened) (h : Happened) (rest : List Happened) → front ++ h ∷ rest ≡ [] → ⊥
    never [] h rest same = cc same
    never (x ∷ front) h rest same = cc same

-- after an event of a run everything is safe
safe_after : Laws → (roster : RosterRecord) (rings : Rings) → IsRoster roster → (w : WorldRecord)
    → Holds roster rings (networks.opening roster) w → (front : List Happened) (h : Happened) (rest : List Happened)
    → GoOn w (front ++ h ∷ rest) → AreHonest (front ++ h ∷ []) → HasDistinctNames (family_of h.after)
    → IsSafeAfter front h
safe_after laws roster rings form w holds front h rest goes honest distinct = record {
  world = world_safe laws roster rings h.after form
      (holds_after roster rings (networks.opening roster) apart h event) distinct;
  undisputed = event_undisputed roster rings apart
      (λ n reached names asked. laws.undisputed roster rings n form reached names asked)
      h.before event.before h.event h.fate h.answer h.after event.step event.honest distinct;
  stays_ended = λ e among bill p carrier ended.
      let both = earlier_holds roster rings (networks.opening roster) apart w holds front h rest goes honest e among in
      laws.ended roster rings (network_of e.after) (network_of h.after) form (is_reached roster rings e.after both.0)
      both.1.led distinct bill p carrier ended;
}
  where
    apart : are_distinct code_eq roster.platforms ≡ true
    apart = laws.apart roster form

    event : IsHonestIn roster rings (networks.opening roster) h
    event = honest_in roster rings (networks.opening roster) apart w holds front h rest goes honest

pub run_safe : Laws → (script : List ℕ) (rings : List Keys) (run : Run) → HasEnoughRings (segments_of 10 script) rings
    → IsRunOf script rings run → StaysSafe run
run_safe laws script rings run enough (fates, is) = on_lines (segments_of 10 script) enough is
  where
    on_roster : (line : List ℕ) (lines : List (List ℕ)) (o : Option RosterRecord) → roster_in line ≡ o
        → IfSome o (λ (roster : RosterRecord). 16 * length roster.platforms ≤ length rings)
        → OnRoster o rings lines fates run → StaysSafe run
    on_roster line lines None read has (none, ends) = nothing_happened run (ap (λ (r : Run). r.happened) ends)
    on_roster line lines (Some roster) read has goes =
        λ front h rest split honest distinct.
        safe_after laws roster (rings_of (opening roster rings)) (roster_form laws line roster read)
        (opening roster rings) (opening_holds roster rings has) front h rest
        (subst (GoOn (opening roster rings)) split (runs_go_on roster lines (opening roster rings) 1 fates run goes))
        honest distinct

    on_lines : (lines : List (List ℕ)) → HasEnoughRings lines rings → RunsLines lines rings fates run → StaysSafe run
    on_lines [] has (inl (none, ends)) = nothing_happened run (ap (λ (r : Run). r.happened) ends)
    on_lines [] has (inr (none, ends)) = nothing_happened run (ap (λ (r : Run). r.happened) ends)
    on_lines (line ∷ lines) has (inl (none, ends)) = nothing_happened run (ap (λ (r : Run). r.happened) ends)
    on_lines (line ∷ lines) has (inr goes) = on_roster line lines (roster_in line) refl has goes
