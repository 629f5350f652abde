-- A session: what was cut, what the desk was asked, and what was written.
use Rattle.std.specs.Prelude.{◌≡◌, ◌≢◌, ◌⊎◌, ◌≤◌, ℕ, Bool, false, List, [], ◌∷◌, ◌++◌, length, map, Option}
use Rattle.std.specs.List.{flat_map}
use Rattle.std.specs.Io.KnownBytes.{Appends, Consumes, IsAtEnd}
use Rattle.ebl_base.specs.declared.moment.Moment.{Moment}
use Rattle.ebl_base.specs.declared.party.Party.{Party}
use Rattle.ebl_edge.specs.Clock.{Gives}
use Rattle.ebl_edge.specs.Sink.{AppendsFirst}
use Rattle.platform_requests.specs.Desk.{Call}
use Rattle.reply_forms.specs.Body.{body_of}
use Rattle.reply_forms.specs.declared.body.ReplyBody.TheVariants as bodies
use Rattle.http_heads.specs.declared.scan.TheConstants.{MAX_HEAD}
use Rattle.http_heads.specs.declared.status.Status.TheVariants as statuses
use Rattle.http_requests.specs.Asked.{of_desk, of_party}
use Rattle.http_requests.specs.Next.{Incoming, CutEnd, nothing, within, status, parted, stopped, whole, IsNext, Cuts}
use Rattle.pint_http.specs.Reply.{status_of, reply_text, known_body}
use Rattle.http_requests.specs.declared.end.LinkEnd.{LinkEnd}
use Rattle.http_requests.specs.declared.end.LinkEnd.TheVariants.{Closed, Cut, ReadFault, WriteFault, Limit, NoMemory}

-- one request and what was done for it, and whether the link may stay open
pub data Exchange : Type 0 where
  -- the desk was asked
  taken : Call → Bool → Exchange
  -- a party was looked up
  tested : Party → Bool → Exchange

abbrev pub incoming_of : Exchange → Incoming
incoming_of (taken call keeps) = record { asks = of_desk call.request; keeps = keeps }
incoming_of (tested party keeps) = record { asks = of_party party; keeps = keeps }

abbrev pub call_of : Exchange → List Call
call_of (taken call keeps) = call ∷ []
call_of (tested party keeps) = []

-- the clock is read once for each request of the desk
abbrev pub moment_of : Exchange → List Moment
moment_of (taken call keeps) = call.now ∷ []
moment_of (tested party keeps) = []

abbrev pub reply_of : (Party → Bool) → Exchange → List ℕ
reply_of known (taken call keeps) = reply_text (status_of call.outcome.reply) (body_of call.outcome.reply) keeps
reply_of known (tested party keeps) = reply_text statuses.Ok (known_body (known party)) keeps

-- the last reply, where it is a status without the desk
abbrev pub last_reply : CutEnd → List ℕ
last_reply (status s) = reply_text s bodies.Nothing false
last_reply nothing = []
last_reply within = []
last_reply parted = []
last_reply stopped = []

pub record Session : Type 0 where
  pub exchanges : List Exchange
  pub end : CutEnd

abbrev pub text_of : (Party → Bool) → Session → List ℕ
text_of known s = flat_map (reply_of known) s.exchanges ++ last_reply s.end

abbrev pub calls_of : List Exchange → List Call
calls_of exchanges = flat_map call_of exchanges

abbrev pub moments_of : List Exchange → List Moment
moments_of exchanges = flat_map moment_of exchanges

-- the session ends here by itself, and the link is closed
abbrev pub IsClosing : CutEnd → Option (List ℕ) → Type 0
IsClosing nothing left = IsAtEnd left
IsClosing within left = ⊥
IsClosing (status s) left = Unit {0}
IsClosing parted left = Unit {0}
IsClosing stopped left = ⊥

-- how the session of the bytes that were read ended, by the answer
abbrev pub IsEndOf : LinkEnd → Session → Option (List ℕ) → Type 0
IsEndOf Closed s left = IsClosing s.end left
IsEndOf Cut s left = (s.end ≡ within) × IsAtEnd left
IsEndOf ReadFault s left = (s.end ≡ nothing) ⊎ (s.end ≡ within)
IsEndOf WriteFault s left = Unit {0}
IsEndOf Limit s left = (s.end ≡ stopped) × (length s.exchanges ≡ 1000000)
IsEndOf NoMemory s left = Unit {0}

-- the bytes begin with these requests, and this stands behind them
abbrev pub StandsBehind : List ℕ → List Incoming → List ℕ → Type 0
StandsBehind b [] rest = rest ≡ b
StandsBehind b (a ∷ requests) rest =
    (after : List ℕ) × IsNext b (whole a after) × StandsBehind after requests rest

-- a status other than 400 refuses a request by its head alone: at most 16,384 bytes of it were read, and its body
-- beyond those stays in the link
abbrev pub LeavesBody : List ℕ → List Incoming → CutEnd → Type 0
LeavesBody read requests (status s) =
    s ≢ statuses.BadRequest → (rest : List ℕ) × StandsBehind read requests rest × (length rest ≤ MAX_HEAD)
LeavesBody read requests nothing = Unit {0}
LeavesBody read requests within = Unit {0}
LeavesBody read requests parted = Unit {0}
LeavesBody read requests stopped = Unit {0}

-- the whole text of the session was written, or a first part of it
abbrev pub Wrote : LinkEnd → Option (List ℕ) → Option (List ℕ) → List ℕ → Type 0
Wrote Closed old new text = Appends old new text
Wrote Cut old new text = Appends old new text
Wrote ReadFault old new text = Appends old new text
Wrote WriteFault old new text = AppendsFirst old new text
Wrote Limit old new text = Appends old new text
Wrote NoMemory old new text = AppendsFirst old new text

-- Every run that ended at `old` goes on by these calls to `new`. With `run old [] old` it holds of `run old calls new`
-- too.
abbrev pub GoesOn : {K : Type 0} → (K → List Call → K → Type 0) → K → List Call → K → Type 0
GoesOn {K} run old calls new =
    (start : K) (before : List Call) → run start before old → run start (before ++ calls) new

-- The bytes that were read were cut into a session, however they came. `Run` tells of calls that the desk went on by
-- them from its value at the entry to its value at the exit, and `known` is its test of parties.
pub record Served (end : LinkEnd) (left now_left written now_written : Option (List ℕ))
    (given now_given : Option (List Moment)) (known : Party → Bool) (Run : List Call → Type 0) : Type 0 where
  pub read : List ℕ
  pub session : Session
  pub consumed : Consumes left now_left read
  pub cuts : Cuts read (map incoming_of session.exchanges) session.end
  pub ends : IsEndOf end session now_left
  pub leaves : LeavesBody read (map incoming_of session.exchanges) session.end
  pub wrote : Wrote end written now_written (text_of known session)
  pub run : Run (calls_of session.exchanges)
  pub moments : Gives given (moments_of session.exchanges) now_given
