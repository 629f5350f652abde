-- What it means that a run of a script stays safe, as long as texts from outside are honest.
use Rattle.std.specs.Prelude.{◌≡◌, ◌≢◌, ◌≤◌, ℕ, ◌*◌, false, List, [], ◌∷◌, ◌++◌, Some, IfSome, length}
use Rattle.ebl_base.specs.declared.checksum.Checksum.{Checksum}
use Rattle.ebl_base.specs.declared.code.Code.{Code}
use Rattle.ebl_base.specs.declared.code.Code.TheVariants.{DisputedEnvelope}
use Rattle.ebl_base.specs.declared.evidence.Evidence.{Evidence}
use Rattle.ebl_base.specs.declared.party.Party.{Party}
use Rattle.ebl_base.specs.declared.platform_code.PlatformCode.{PlatformCode}
use Rattle.ebl_base.specs.declared.reason.Reason.{Reason}
use Rattle.ebl_base.specs.declared.reason.Reason.TheVariants as reasons
use Rattle.ebl_base.specs.declared.signed_text.SignedText.{SignedText}
use Rattle.world_script.specs.Event.{EventRecord, ForeignRecord}
use Rattle.world_script.specs.Event as events
use Rattle.title_fold.specs.Title.{possessor}
use Rattle.title_fold.specs.declared.title.Title.{Title}
use Rattle.bill_lines.specs.Bills.{acting, end_of, is_forked, title_of}
use Rattle.bill_diary.specs.History.{IsRecordOf}
use Rattle.bill_diary.specs.Place.{may_act_by, place_of}
use Rattle.bill_diary.specs.declared.record.Record.TheVariants.{Declined}
use Rattle.transfer_judge.specs.Legal.{IsLegal}
use Rattle.pint_responses.specs.declared.response.Response.{Response}
use Rattle.platform_requests.specs.declared.reply.Reply.TheVariants as replies
use Rattle.answer_lines.specs.declared.answer.Answer.TheVariants.{Replied}
use Rattle.closed_family.specs.Chains.{IsAmong}
use Rattle.closed_family.specs.Family.{HasDistinctNames, IsClosedFamily, IsSafeFamily, IsSignedIn, IsSoundFamily, histories_of}
use Rattle.closed_family.specs.Later.{IsEndedAt}
use Rattle.platform_world.specs.World.{ShardState, WorldRecord, family_of, platforms_of, settled_for, shard_at}
use Rattle.signed_envelope.specs.KeyRing.{Keys}
use Rattle.platform_world.specs.Run.{Happened, Run}
use Rattle.world_events.specs.Script.{roster_in}
use Rattle.run_safety.specs.Honest.{IsHonestBody, IsHonestReply}
use Rattle.world_safety.specs.Worlds.{rings_of, sent_by}

-- ---- honest texts

-- what comes from outside in a world is honest by what was sent before it; a document and a finish bring no text that
-- is signed
abbrev pub AreHonestBytes : WorldRecord → ForeignRecord → Type 0
AreHonestBytes w (events.starts body) = IsHonestBody w.roster (rings_of w) (sent_by w) body
AreHonestBytes w (events.start_replies bill text) = IsHonestReply w.roster (rings_of w) (sent_by w) text
AreHonestBytes w (events.finish_replies bill text) = IsHonestReply w.roster (rings_of w) (sent_by w) text
AreHonestBytes w bytes = Unit {0}

abbrev pub IsHonestEvent : WorldRecord → EventRecord → Type 0
IsHonestEvent w (events.receives at bytes) = AreHonestBytes w bytes
IsHonestEvent w event = Unit {0}

-- each foreign line of these events is honest
abbrev pub AreHonest : List Happened → Type 0
AreHonest [] = Unit {0}
AreHonest (h ∷ hs) = IsHonestEvent h.before h.event × AreHonest hs

-- ---- safe worlds

-- a bill is ended on a platform: its surrender to this carrier was accepted
abbrev pub IsEndedIn : WorldRecord → Checksum → PlatformCode → Party → Type 0
IsEndedIn w bill p carrier = IsEndedAt (place_of (histories_of bill (family_of w) p)) carrier

-- a safe world
pub record IsSafeWorld (w : WorldRecord) : Type 0 where
  -- each diary is legal for its platform, under the roster and the keys of its shard
  pub legal : (p : PlatformCode) (i : ℕ) (shard : ShardState) → shard_at p i w.platforms ≡ Some shard
      → IsLegal w.roster shard.keys p shard.diary
  -- whatever was declined for good was declined for its party, and so nothing for a chain that parts ways
  pub declined : (p : PlatformCode) (i : ℕ) (shard : ShardState) → shard_at p i w.platforms ≡ Some shard
      → (bill entry : Checksum) (code : Code) (reason : Reason) (evidence : Evidence)
      → IsRecordOf shard.diary (Declined bill entry code reason evidence) → reason ≡ reasons.Party
  -- the diaries of all platforms are a sound and closed family, and each bill is safe
  pub sound : IsSoundFamily (family_of w)
  pub closed : IsClosedFamily (family_of w)
  pub safe : IsSafeFamily (family_of w)
  -- the line of each bill says that nothing forks, that whoever may act is where it ends, and a title, whose possessor
  -- is there
  pub forked : (bill : Checksum) → IsSignedIn (family_of w) bill
      → is_forked (histories_of bill (family_of w)) (platforms_of w) ≡ false
  pub acts : (bill : Checksum) → IsSignedIn (family_of w) bill → (p : PlatformCode)
      → IsAmong p (acting (histories_of bill (family_of w)) (settled_for bill w))
      → end_of (histories_of bill (family_of w)) (platforms_of w) ≡ Some p
  pub titled : (bill : Checksum) → IsSignedIn (family_of w) bill
      → (title : Title) × (title_of (histories_of bill (family_of w)) (platforms_of w) ≡ Some title)
      × (end_of (histories_of bill (family_of w)) (platforms_of w) ≡ Some (possessor title).platform)
  -- a bill that is ended is so on the platform of its carrier, and nobody may act on it anywhere
  pub ended_there : (bill : Checksum) (p : PlatformCode) (carrier : Party) → IsEndedIn w bill p carrier
      → carrier.platform ≡ p
  pub nobody : (bill : Checksum) (p : PlatformCode) (carrier : Party) → IsEndedIn w bill p carrier
      → (q : PlatformCode) → may_act_by (histories_of bill (family_of w) q) ≡ false

-- ---- safe runs

-- everything is safe after an event that comes after these
pub record IsSafeAfter (earlier : List Happened) (h : Happened) : Type 0 where
  -- the world after it is safe
  pub world : IsSafeWorld h.after
  -- no chain is disputed: where the event is answered by a signed answer, its code isn't DISE
  pub undisputed : (response : Response) (text : SignedText) → h.answer ≡ Replied (replies.Answer response text)
      → response.code ≢ DisputedEnvelope
  -- a bill that was ended after an earlier event still is, on the same platform and with the same carrier
  pub stays_ended : (e : Happened) → IsAmong e earlier → (bill : Checksum) (p : PlatformCode) (carrier : Party)
      → IsEndedIn e.after bill p carrier → IsEndedIn h.after bill p carrier

-- after each event up to which the texts from outside were honest, and after which the texts of the diaries have
-- distinct names, everything is safe
abbrev pub StaysSafe : Run → Type 0
StaysSafe run =
    (front : List Happened) (h : Happened) (rest : List Happened) → run.happened ≡ front ++ h ∷ rest
    → AreHonest (front ++ h ∷ []) → HasDistinctNames (family_of h.after) → IsSafeAfter front h

-- sixteen rings of keys for each platform of the roster that the first line gives
abbrev pub HasEnoughRings : List (List ℕ) → List Keys → Type 0
HasEnoughRings [] rings = Unit {0}
HasEnoughRings (line ∷ lines) rings =
    IfSome (roster_in line) (λ roster. 16 * length roster.platforms ≤ length rings)
