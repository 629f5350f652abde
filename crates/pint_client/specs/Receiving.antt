-- For private clauses: how far a reply was read.
use Rattle.std.specs.Prelude.{◌≡◌, ◌≢◌, ℕ, ◌<◌, ◌≤◌, List, ◌++◌, length, take, Option, Ok}
use Rattle.std.specs.Io.KnownBytes.{Consumes, IsAtEnd}
use Rattle.pint_client.specs.declared.client_fault.ClientFault.{ClientFault}
use Rattle.pint_client.specs.declared.client_fault.ClientFault.TheVariants.{BadReply, NoMemory}
use Rattle.http_heads.specs.declared.scan.Scan.TheVariants.{Blank}
use Rattle.http_heads.specs.Scan.{scan}

-- a head of `len` bytes is in the first `count` bytes of the buffer, which were read
pub record HoldsHead (buffer : List ℕ) (len count : ℕ) (left now_left : Option (List ℕ)) : Type 0 where
  pub within : count ≤ length buffer
  pub head : len ≤ count
  pub ends : scan 0 Blank (take count buffer) ≡ Ok len
  pub consumed : Consumes left now_left (take count buffer)

-- the body of `size` bytes is those that came behind the head, and those that were read
pub record HoldsBody (body behind : List ℕ) (size : ℕ) (left now_left : Option (List ℕ)) : Type 0 where
  pub read : List ℕ
  pub consumed : Consumes left now_left read
  pub body_is : body ≡ take size behind ++ read
  pub size_is : length body ≡ size

-- fewer bytes than that were read: the input ended, or a read failed
pub record LacksBytes (fault : ClientFault) (count : ℕ) (left now_left : Option (List ℕ)) : Type 0 where
  pub read : List ℕ
  pub consumed : Consumes left now_left read
  pub few : fault ≢ NoMemory → length read < count
  pub at_end : fault ≡ BadReply → IsAtEnd now_left
