-- A script's world as all platforms together: their diaries, loose frames, and what was sent.
use Rattle.std.specs.Prelude.{ℕ, List, [], ◌∷◌, false, Option, option_and_then, option_map, unwrap_or}
use Rattle.std.specs.List.{flat_map}
use Rattle.ebl_base.specs.declared.platform_code.PlatformCode.{PlatformCode}
use Rattle.signed_envelope.specs.KeyRing.{Keys}
use Rattle.signed_envelope.specs.declared.alg.Alg.TheVariants.{Hs256}
use Rattle.bill_diary.specs.declared.frame.Frame.{Frame}
use Rattle.answer_lines.specs.declared.parcel.Parcel.{Parcel}
use Rattle.answer_lines.specs.declared.parcel.Content.{Content}
use Rattle.answer_lines.specs.declared.parcel.Content.TheVariants as contents
use Rattle.platform_world.specs.World.{WorldRecord, family_of, loose_frame, shard_at}
use Rattle.run_safety.specs.Network.{Network, Sent, sent_start, sent_reply}
use Rattle.run_safety.specs.Steady.{Rings}

-- ---- what was sent

-- the start or the reply that a parcel's content is
abbrev pub sent_in : PlatformCode → Content → List Sent
sent_in from (contents.Start body) = sent_start from body ∷ []
sent_in from (contents.StartReply bytes) = sent_reply from bytes ∷ []
sent_in from (contents.FinishReply bytes) = sent_reply from bytes ∷ []
sent_in from content = []

abbrev pub sent_of : Parcel → List Sent
sent_of parcel = sent_in parcel.from parcel.content

-- the starts and the replies of a world
abbrev pub sent_by : WorldRecord → List Sent
sent_by w = flat_map sent_of w.sent

-- ---- shards

-- the frame that is loose there, if one is
abbrev pub loose_in : WorldRecord → PlatformCode → ℕ → Option Frame
loose_in w p i = option_and_then loose_frame (shard_at p i w.platforms)

-- keys that take nothing as signed
abbrev pub no_keys : Keys
no_keys = record { alg = Hs256; signs = λ who input signature. false }

-- the keys of each shard; where there is no shard, nothing is signed
abbrev pub rings_of : WorldRecord → Rings
rings_of w p i = unwrap_or (option_map (λ shard. shard.keys) (shard_at p i w.platforms)) no_keys

-- ---- the whole

abbrev pub network_of : WorldRecord → Network
network_of w = record { family = family_of w; loose = loose_in w; sent = sent_by w }
