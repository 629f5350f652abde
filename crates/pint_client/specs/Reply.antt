-- A reply: a head (RFC 9112, sections 4 and 5) and a body of the length that the head states.
use Rattle.std.specs.Prelude.{◌≡◌, ℕ, ◌≤◌, ◌==◌, ◌&&◌, List, [], ◌++◌, length, map, codes, Option, Some, None, if◌then◌else◌}
use Rattle.std.specs.List.{list_all}
use Rattle.std.specs.Str.Parse.{digits_value}
use Rattle.http_heads.specs.declared.fields.TheConstants.{MAX_BODY}
use Rattle.http_heads.specs.declared.head.TheConstants.{MAX_FIELDS}
use Rattle.http_heads.specs.declared.scan.TheConstants.{MAX_HEAD}
use Rattle.http_heads.specs.Fields.{Fields, is_text, values, first_of, has_one, is_length}
use Rattle.httparse.specs.Grammar.{ResponseHead, ReadsResponse, print_response, status_code}
use Rattle.httparse.specs.Spans.{name_and_value}

-- the length that the first of these values states, if it is a length and all have its text
abbrev pub length_of : Option (List ℕ) → List (List ℕ) → Option ℕ
length_of None vs = None
length_of (Some v) vs = if is_length v && list_all (is_text v) vs then Some (digits_value 10 v) else None

-- the length that these values state
abbrev pub length_in : List (List ℕ) → Option ℕ
length_in vs = length_of (first_of vs) vs

-- the length of the body that a head states: with the status 204 it is 0, whatever the fields are (RFC 9112,
-- section 6.3); else it is that of `content-length`, unless the body has a transfer coding
abbrev pub length_by : ℕ → Fields → Option ℕ
length_by status fields =
    if status == 204 then Some 0 else (
    if has_one (values (codes "transfer-encoding") fields) then None
    else length_in (values (codes "content-length") fields))

abbrev pub stated_length : ResponseHead → Option ℕ
stated_length h = length_by (status_code h) (map name_and_value h.fields)

-- a whole reply with this status and body, and then further bytes: its head has at most 16,384 bytes and 64 fields, its
-- body at most 4,194,304 bytes
pub record IsReply (came : List ℕ) (status : ℕ) (body after : List ℕ) : Type 0 where
  pub head : ResponseHead
  pub reads : ReadsResponse came head (body ++ after)
  pub head_size : length (print_response head) ≤ MAX_HEAD
  pub field_count : length head.fields ≤ MAX_FIELDS
  pub status_is : status ≡ status_code head
  pub length_is : stated_length head ≡ Some (length body)
  pub body_size : length body ≤ MAX_BODY

-- these bytes don't begin with a whole reply
abbrev pub HasNoReply : List ℕ → Type 0
HasNoReply came = (status : ℕ) (body after : List ℕ) → ¬ (IsReply came status body after)

-- nor do they with any bytes that may follow
abbrev pub NeverHasReply : List ℕ → Type 0
NeverHasReply came = (more : List ℕ) → HasNoReply (came ++ more)

-- what a piece says that is the whole head of a reply
pub record States (piece : List ℕ) (status size : ℕ) : Type 0 where
  pub head : ResponseHead
  pub reads : ReadsResponse piece head []
  pub field_count : length head.fields ≤ MAX_FIELDS
  pub status_is : status ≡ status_code head
  pub length_is : stated_length head ≡ Some size
  pub body_size : size ≤ MAX_BODY
