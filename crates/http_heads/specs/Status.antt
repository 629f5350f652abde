-- The statuses of a platform's replies: their numbers, and the phrases that the crate `http` gives to these.
use Rattle.std.specs.Prelude.{ℕ, List, [], unwrap_or}
use Rattle.http.specs.StatusCode.{reason_phrase}
use Rattle.http_heads.specs.declared.status.Status.{Status}
use Rattle.http_heads.specs.declared.status.Status.TheVariants as statuses

abbrev pub status_number : Status → ℕ
status_number statuses.Ok = 200
status_number statuses.Created = 201
status_number statuses.NoContent = 204
status_number statuses.BadRequest = 400
status_number statuses.NotFound = 404
status_number statuses.MethodNotAllowed = 405
status_number statuses.Conflict = 409
status_number statuses.LengthRequired = 411
status_number statuses.PayloadTooLarge = 413
status_number statuses.UnprocessableEntity = 422
status_number statuses.InternalServerError = 500
status_number statuses.NotImplemented = 501
status_number statuses.BadGateway = 502
status_number statuses.ServiceUnavailable = 503
status_number statuses.InsufficientStorage = 507

abbrev pub phrase_of : Status → List ℕ
phrase_of status = unwrap_or (reason_phrase (status_number status)) []
