-- In a sound history the known chain only grows.
use Rattle.std.proofs.Common.{◌≡◌, Bool, true, false, cond, List, [], ◌∷◌, ◌++◌, Option, Some, None, ap, sym, subst, ◌∙◌}
use Rattle.std.specs.Prelude.{option_map}
use Rattle.std.proofs.lemmas.List.{append-nil, append_assoc, map-append}
use Rattle.ebl_base.specs.declared.chain.ChainLink.{ChainLink}
use Rattle.ebl_base.specs.declared.platform_code.PlatformCode.{PlatformCode}
use Rattle.bill_chain.specs.Chain.{names_of}
use Rattle.bill_chain.proofs.ChainLemmas.{goes_beyond-parts}
use Rattle.bill_diary.specs.declared.record.Record.{Record}
use Rattle.bill_diary.specs.declared.record.Record.TheVariants.{Signed, Acted, Attached, Parted, Settled, Regained, Begun, Stored, Taken, Declined}
use Rattle.bill_diary.specs.declared.bill_place.BillPlace.TheVariants.{Held, Parting, Gone}
use Rattle.bill_diary.specs.Known.{known}
use Rattle.bill_diary.specs.Place.{parting, is_left, since, place_with}
use Rattle.bill_diary.specs.Growth.{GoesOnIn}
use Rattle.bill_diary.specs.Receiving.{continues}
use Rattle.bill_diary.specs.Sound.{IsSoundHistory}
use Rattle.bill_diary.proofs.PlaceLemmas.{WhereParting, stands, absent_knows_nothing}
use Rattle.bill_diary.proofs.KnownLemmas.{tells_known, settled_is_told, settled_tells, taken_tells}

-- ---- going on

goes_on_same : (chain : Option (List ChainLink)) → GoesOnIn chain chain
goes_on_same None = tt
goes_on_same (Some chain) = ([], sym (append-nil (names_of chain)))

goes_on_further : (a b c : Option (List ChainLink)) → GoesOnIn a b → GoesOnIn b c → GoesOnIn a c
goes_on_further None b c first then = tt
goes_on_further (Some a) None c first then = absurd first
goes_on_further (Some a) (Some b) None first then = absurd then
goes_on_further (Some a) (Some b) (Some c) (rest, names) (more, further) =
    (rest ++ more, further ∙ ap (λ n. n ++ more) names ∙ append_assoc (names_of a) rest more)

goes_on_with : (chain : List ChainLink) (links : List ChainLink) → GoesOnIn (Some chain) (Some (chain ++ links))
goes_on_with chain links = (names_of links, map-append (λ (l : ChainLink). l.name) chain links)

-- ---- a chain that may be received

continues_on : (h : List Record) (known1 chain : List ChainLink) (left : Bool)
    → continues (cond left (Gone known1) (Held known1 (since h))) chain ≡ true → GoesOnIn (Some known1) (Some chain)
continues_on h known1 chain true goes =
    let beyond = goes_beyond-parts known1 chain goes in
    (beyond.rest, beyond.names)
continues_on h known1 chain false goes = absurd (let no : false ≡ true = goes in cc)

goes_on_in_what_continues : (h : List Record) (k : Option (List ChainLink)) (p : Option ChainLink)
    (chain : List ChainLink) → continues (place_with k p h) chain ≡ true → GoesOnIn k (Some chain)
goes_on_in_what_continues h None p chain goes = tt
goes_on_in_what_continues h (Some known1) (Some link) chain goes =
    let beyond = goes_beyond-parts (known1 ++ link ∷ []) chain goes in
    goes_on_further (Some known1) (Some (known1 ++ link ∷ [])) (Some chain) (goes_on_with known1 (link ∷ []))
    (beyond.rest, beyond.names)
goes_on_in_what_continues h (Some known1) None chain goes = continues_on h known1 chain (is_left known1 h) goes

-- ---- each record

goes_on_once : (me : PlatformCode) (r : Record) (h : List Record) → IsSoundHistory me (r ∷ h)
    → GoesOnIn (known h) (known (r ∷ h))
goes_on_once me (Signed bill document t) h sound =
    subst (λ k. GoesOnIn k (known (Signed bill document t ∷ h))) (sym (absent_knows_nothing h sound.0.absent)) tt
goes_on_once me (Settled bill entry) h sound =
    let settles = sound.0 in
    let where1 : WhereParting h settles.known settles.link =
    stands h (Parting settles.known settles.link) settles.parting in
    let tells = settled_tells me bill entry h sound ∙ settled_is_told bill entry h settles (tells_known me h sound.1) in
    subst (λ k. GoesOnIn k (known (Settled bill entry ∷ h))) (sym where1.known_is)
    (subst (GoesOnIn (Some settles.known)) (sym tells) (goes_on_with settles.known (settles.link ∷ [])))
goes_on_once me (Taken bill entry) h sound =
    let chain = sound.0.begun.chain in
    let tells : known (Taken bill entry ∷ h) ≡ Some chain =
    taken_tells me bill entry h sound ∙ ap (option_map (λ came. came.chain)) sound.0.begun_is in
    subst (GoesOnIn (known h)) (sym tells)
    (goes_on_in_what_continues h (known h) (parting h) chain sound.0.receives.continues_place)
goes_on_once me (Acted bill t) h sound = goes_on_same (known h)
goes_on_once me (Attached bill piece bytes) h sound = goes_on_same (known h)
goes_on_once me (Parted bill link manifest manifest_text) h sound = goes_on_same (known h)
goes_on_once me (Regained bill entry) h sound = goes_on_same (known h)
goes_on_once me (Begun bill chain manifest body) h sound = goes_on_same (known h)
goes_on_once me (Stored bill entry checksum bytes) h sound = goes_on_same (known h)
goes_on_once me (Declined bill entry code reason evidence) h sound = goes_on_same (known h)

-- and so over any records
pub known_goes_on : (me : PlatformCode) (newer h : List Record) → IsSoundHistory me (newer ++ h)
    → GoesOnIn (known h) (known (newer ++ h))
known_goes_on me [] h sound = goes_on_same (known h)
known_goes_on me (r ∷ newer) h sound =
    goes_on_further (known h) (known (newer ++ h)) (known (r ∷ (newer ++ h)))
    (known_goes_on me newer h sound.1) (goes_on_once me r (newer ++ h) sound)
