-- The six routes: which paths they have, their methods, and whether a body's length must be stated.
use Rattle.std.specs.Prelude.{ℕ, zero, suc, ◌==◌, not, Bool, true, false, List, [], ◌∷◌, codes, Option, Some, None, Result, Ok, Err, option_map, option_and_then, take_while, if◌then◌else◌}
use Rattle.matchit.specs.Route.{Scan, parse_route}
use Rattle.matchit.specs.Rows.{RowsOf}
use Rattle.matchit.specs.Order.{placed}
use Rattle.matchit.specs.Router.{RouteOf, route_from}
use Rattle.matchit.specs.Seek.{first}
use Rattle.matchit.specs.declared.error.InsertError.{InsertError}
use Rattle.ebl_base.specs.declared.checksum.Checksum.{Checksum}
use Rattle.ebl_base.specs.declared.reference.Reference.{Reference}
use Rattle.document_checksum.specs.Text.{checksum_of_text}
use Rattle.upload_state.specs.Reference.{reference_in}
use Rattle.http_heads.specs.declared.routes.Endpoint.{Endpoint}
use Rattle.http_heads.specs.declared.routes.Endpoint.TheVariants as ends
use Rattle.http_heads.specs.declared.route.Route.{Route}
use Rattle.http_heads.specs.declared.route.Route.TheVariants.{Start, Document, Finish, Validation, Command, Bill}

-- ---- paths

-- a table of paths, as the router `matchit` keeps it
abbrev pub Table : Type 0
Table = RowsOf (RouteOf Endpoint)

abbrev pub placed_if_read : Result Scan InsertError → Endpoint → Table → Table
placed_if_read (Ok path) endpoint table = placed (path.pattern, route_from path endpoint) table
placed_if_read (Err e) endpoint table = table

-- the table with one path more, in which a part in braces stands for any text without a slash
abbrev pub with_path : List ℕ → Endpoint → Table → Table
with_path path endpoint table = placed_if_read (parse_route path) endpoint table

unfoldable pub paths : Table
paths =
    with_path (codes "/v3/bills/{bill}") ends.Bill (
    with_path (codes "/v3/holder-commands") ends.Command (
    with_path (codes "/v3/receiver-validation") ends.Validation (
    with_path (codes "/v3/envelopes/{reference}/finish-transfer") ends.Finish (
    with_path (codes "/v3/envelopes/{reference}/additional-documents/{checksum}") ends.Document (
    with_path (codes "/v3/envelopes") ends.Start [])))))

-- which of the six paths a target is, by the router's own search
abbrev pub endpoint_of : List ℕ → Option Endpoint
endpoint_of target = option_map (λ route. route.value) (first paths target)

-- ---- the parts of a path

-- what stands behind the n-th slash
abbrev pub behind_slashes : ℕ → List ℕ → List ℕ
behind_slashes n [] = []
behind_slashes zero (b ∷ bytes) = b ∷ bytes
behind_slashes (suc n) (b ∷ bytes) = if b == 47 then behind_slashes n bytes else behind_slashes (suc n) bytes

abbrev pub is_no_slash : ℕ → Bool
is_no_slash b = not (b == 47)

-- what stands between the n-th slash and the next one, or the end
abbrev pub segment : ℕ → List ℕ → List ℕ
segment n target = take_while is_no_slash (behind_slashes n target)

-- ---- routes

abbrev pub bill_at : Option Checksum → Option Route
bill_at None = None
bill_at (Some bill) = Some (Bill bill)

abbrev pub finish_at : Option Reference → Option Route
finish_at None = None
finish_at (Some reference) = Some (Finish reference)

abbrev pub document_at : Option Reference → Option Checksum → Option Route
document_at None checksum = None
document_at (Some reference) None = None
document_at (Some reference) (Some checksum) = Some (Document reference checksum)

-- with what stands in the braces; none where that doesn't have its form
abbrev pub route_at : List ℕ → Endpoint → Option Route
route_at target ends.Start = Some Start
route_at target ends.Document = document_at (reference_in (segment 3 target)) (checksum_of_text (segment 5 target))
route_at target ends.Finish = finish_at (reference_in (segment 3 target))
route_at target ends.Validation = Some Validation
route_at target ends.Command = Some Command
route_at target ends.Bill = bill_at (checksum_of_text (segment 3 target))

-- the route of a target
abbrev pub route_of : List ℕ → Option Route
route_of target = option_and_then (route_at target) (endpoint_of target)

-- ---- what a route asks for

abbrev pub method_of : Route → List ℕ
method_of Start = codes "POST"
method_of (Document reference checksum) = codes "PUT"
method_of (Finish reference) = codes "PUT"
method_of Validation = codes "POST"
method_of Command = codes "POST"
method_of (Bill bill) = codes "GET"

-- a GET and a Finish may leave the length of a body out
abbrev pub states_length : Route → Bool
states_length Start = true
states_length (Document reference checksum) = true
states_length (Finish reference) = false
states_length Validation = true
states_length Command = true
states_length (Bill bill) = false
