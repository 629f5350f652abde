-- The known chain of a bill: the longest of those that its records tell.
use Rattle.std.specs.Prelude.{List, [], ◌∷◌, ◌++◌, Option, Some, None, length, nat_lt, option_map, if◌then◌else◌}
use Rattle.std.specs.Option.{option_to_list}
use Rattle.ebl_base.specs.Checksum.{checksum_eq}
use Rattle.ebl_base.specs.declared.checksum.Checksum.{Checksum}
use Rattle.ebl_base.specs.declared.chain.ChainLink.{ChainLink}
use Rattle.envelope_manifest.specs.declared.manifest.Manifest.{Manifest}
use Rattle.bill_chain.specs.Chain.{ends_in}
use Rattle.bill_diary.specs.declared.record.Record.{Record}
use Rattle.bill_diary.specs.declared.record.Record.TheVariants.{Signed, Parted, Settled, Begun, Taken}

-- what came with a Begun: a chain, and a manifest
pub record Received : Type 0 where
  pub chain : List ChainLink
  pub manifest : Manifest

-- what came with the last Begun of a chain that ends in this entry
abbrev pub last_begun : Checksum → List Record → Option Received
last_begun entry [] = None
last_begun entry (Begun bill chain manifest body ∷ h) =
    if ends_in entry chain then Some (record { chain = chain; manifest = manifest }) else last_begun entry h
last_begun entry (r ∷ h) = last_begun entry h

-- the chain of a Taken of this entry, with the records before it: that of the last Begun
abbrev pub taken_chain : Checksum → List Record → Option (List ChainLink)
taken_chain entry before = option_map (λ came. came.chain) (last_begun entry before)

-- the longer of two chains; where they are equally long, the first
abbrev pub longer : List ChainLink → Option (List ChainLink) → List ChainLink
longer chain None = chain
longer chain (Some other) = if nat_lt (length chain) (length other) then other else chain

-- the longest of some chains; of equally long ones the first
abbrev pub longest : List (List ChainLink) → Option (List ChainLink)
longest [] = None
longest (chain ∷ chains) = Some (longer chain (longest chains))

abbrev mutual
  -- the chains that the records of a bill tell, newest first
  pub told : List Record → List (List ChainLink)
  told [] = []
  -- where the bill was signed, the empty one
  told (Signed bill document transaction ∷ h) = [] ∷ told h
  -- the chain of each Taken
  told (Taken bill entry ∷ h) = option_to_list (taken_chain entry h) ++ told h
  -- the chain of each Settled
  told (Settled bill entry ∷ h) = option_to_list (settled_chain entry h) ++ told h
  told (r ∷ h) = told h

  -- the chain of a Settled of this entry, with the records before it: the known chain before the last Parted of the
  -- entry, followed by the entry
  pub settled_chain : Checksum → List Record → Option (List ChainLink)
  settled_chain entry [] = None
  settled_chain entry (Parted bill link manifest manifest_text ∷ h) =
      if checksum_eq link.name entry then option_map (λ known. known ++ link ∷ []) (longest (told h))
      else settled_chain entry h
  settled_chain entry (r ∷ h) = settled_chain entry h

-- the known chain of a bill: the longest that its records tell, of equally long ones the last; none where neither
-- a Signed nor a Taken is there
abbrev pub known : List Record → Option (List ChainLink)
known h = longest (told h)
