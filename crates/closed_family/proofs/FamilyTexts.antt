-- Texts of a sound family have distinct names where those in its order do.
use Rattle.std.proofs.Common.{◌≡◌, ℕ, List, [], ◌∷◌, ◌++◌, reverse, refl, sym, ap, subst, ◌∙◌, inl, inr}
use Rattle.std.specs.Prelude.{◌⊎◌, Option, Some, map}
use Rattle.std.specs.List.{flat_map}
use Rattle.std.specs.Result.{result_ok}
use Rattle.std.proofs.lemmas.List.{reverse-append}
use Rattle.ebl_base.specs.declared.checksum.Checksum.{Checksum}
use Rattle.ebl_base.specs.declared.chain.ChainLink.{ChainLink}
use Rattle.ebl_base.specs.declared.platform_code.PlatformCode.{PlatformCode}
use Rattle.canonical_json.specs.Canon.{canon}
use Rattle.document_checksum.specs.Digest.{checksum_of}
use Rattle.envelope_manifest.specs.Body.{BodyRecord}
use Rattle.envelope_manifest.specs.declared.manifest.Manifest.{Manifest}
use Rattle.bill_diary.specs.declared.record.Record.{Record}
use Rattle.bill_diary.specs.declared.record.Record.TheVariants.{Signed, Acted, Attached, Parted, Settled, Regained, Begun, Stored, Taken, Declined}
use Rattle.bill_diary.specs.declared.frame.Frame.{Frame}
use Rattle.bill_diary.specs.History.{bill_of, records_of, newest_first, of_bill}
use Rattle.bill_diary.specs.Texts.{IsBodyOf}
use Rattle.bill_diary.specs.Sound.{MayFollow, AreSound}
use Rattle.closed_family.specs.declared.family.Member.{Member}
use Rattle.closed_family.specs.Chains.{IsAmong}
use Rattle.closed_family.specs.Family.{records_in, IsTextOf, StandsIn, IsTextIn, HasDistinctNames, IsSoundFamily}
use Rattle.closed_family.specs.Texts.{body_in, texts_of_body, texts_of, Named, named, texts_in, AreDistinct, IsSharedFirst, SharesName}
use Rattle.closed_family.proofs.Records.{among_more, among_before, among_either}
use Rattle.closed_family.proofs.Bodies.{body_in-reads}

-- ---- items of lists

-- an item of a list, with the fact that it is one and a further one
pub record From {X : Type 0} (P : X → Type 0) (items : List X) : Type 0 where
  pub item : X
  pub among : IsAmong item items
  pub holds : P item

later : {X : Type 0} (P : X → Type 0) (x : X) (items : List X) → From P items → From P (x ∷ items)
later P x items f = record { item = f.item; among = inr f.among; holds = f.holds }

pub among_map : {X Y : Type 0} (f : X → Y) (items : List X) (x : X) → IsAmong x items → IsAmong (f x) (map f items)
among_map f [] x h = absurd h
among_map f (y ∷ items) x (inl same) = inl (ap f same)
among_map f (y ∷ items) x (inr h) = inr (among_map f items x h)

map_among : {X Y : Type 0} (f : X → Y) (items : List X) (y : Y) → IsAmong y (map f items)
    → From (λ (x : X). f x ≡ y) items
map_among f [] y h = absurd h
map_among f (x ∷ items) y (inl same) = record { item = x; among = inl refl; holds = same }
map_among {X} f (x ∷ items) y (inr h) = later (λ (z : X). f z ≡ y) x items (map_among f items y h)

pub among_flat : {X Y : Type 0} (f : X → List Y) (items : List X) (x : X) (y : Y) → IsAmong x items → IsAmong y (f x)
    → IsAmong y (flat_map f items)
among_flat f [] x y h k = absurd h
among_flat {X} {Y} f (z ∷ items) x y (inl same) k =
    among_before y (f z) (flat_map f items) (subst (λ (w : X). IsAmong y (f w)) (sym same) k)
among_flat f (z ∷ items) x y (inr h) k = among_more y (f z) (flat_map f items) (among_flat f items x y h k)

pub flat_among : {X Y : Type 0} (f : X → List Y) (items : List X) (y : Y) → IsAmong y (flat_map f items)
    → From (λ (x : X). IsAmong y (f x)) items
flat_among f [] y h = absurd h
flat_among {X} f (x ∷ items) y h = on_parts (among_either y (f x) (flat_map f items) h) (flat_among f items y)
  where
    on_parts : IsAmong y (f x) ⊎ IsAmong y (flat_map f items)
        → (IsAmong y (flat_map f items) → From (λ (z : X). IsAmong y (f z)) items)
        → From (λ (z : X). IsAmong y (f z)) (x ∷ items)
    on_parts (inl here) further = record { item = x; among = inl refl; holds = here }
    on_parts (inr there) further = later (λ (z : X). IsAmong y (f z)) x items (further there)

pub among_reverse : {X : Type 0} (items : List X) (x : X) → IsAmong x items → IsAmong x (reverse items)
among_reverse [] x h = absurd h
among_reverse {X} (y ∷ items) x h =
    subst (λ (xs : List X). IsAmong x xs) (sym (reverse-append (y ∷ []) items)) (on_parts h (among_reverse items x))
  where
    on_parts : (y ≡ x) ⊎ IsAmong x items → (IsAmong x items → IsAmong x (reverse items))
        → IsAmong x (reverse items ++ y ∷ [])
    on_parts (inl same) further = among_more x (reverse items) (y ∷ []) (inl same)
    on_parts (inr there) further = among_before x (reverse items) (y ∷ []) (further there)

pub reverse_among : {X : Type 0} (items : List X) (x : X) → IsAmong x (reverse items) → IsAmong x items
reverse_among [] x h = h
reverse_among {X} (y ∷ items) x h =
    on_parts
    (among_either x (reverse items) (y ∷ [])
    (subst (λ (xs : List X). IsAmong x xs) (reverse-append (y ∷ []) items) h))
    (reverse_among items x)
  where
    on_parts : IsAmong x (reverse items) ⊎ IsAmong x (y ∷ []) → (IsAmong x (reverse items) → IsAmong x items)
        → (y ≡ x) ⊎ IsAmong x items
    on_parts (inl there) further = inr (further there)
    on_parts (inr (inl same)) further = inl same
    on_parts (inr (inr none)) further = absurd none

-- ---- the records of a family

-- a record that stands in a family is one of its records
among_records : (family : List Member) (member : Member) (r : Record) → StandsIn family member r
    → IsAmong r (records_in family)
among_records family member r stands =
    among_flat (λ (m : Member). flat_map (λ (d : List Frame). flat_map records_of d) m.diaries) family member r
    stands.listed
    (among_flat (λ (d : List Frame). flat_map records_of d) member.diaries stands.diary r stands.has_diary
    (reverse_among (flat_map records_of stands.diary) r stands.has_record))

-- and each of them stands in it
records_among : (family : List Member) (r : Record) → IsAmong r (records_in family)
    → (member : Member) × StandsIn family member r
records_among family r among =
    let m =
    flat_among (λ (m : Member). flat_map (λ (d : List Frame). flat_map records_of d) m.diaries) family r among in
    let d = flat_among (λ (d : List Frame). flat_map records_of d) m.item.diaries r m.holds in (
      m.item,
      record {
        listed = m.among;
        diary = d.item;
        has_diary = d.among;
        has_record = among_reverse (flat_map records_of d.item) r d.holds;
      },
    )

-- ---- the texts of a record

-- a body of a bill is the one that its bytes are
body_of_bill : (bill : Checksum) (chain : List ChainLink) (manifest : Manifest) (body : List ℕ)
    (came : IsBodyOf bill chain manifest body) → body_in body ≡ Some came.parts
body_of_bill bill chain manifest body came = body_in-reads body came.value came.reads ∙ ap result_ok came.reads_as

-- a text of a record is one of its texts
text_among : (r : Record) (text : List ℕ) → IsTextOf r text → IsAmong text (texts_of r)
text_among (Signed bill document transaction) text is = inl is
text_among (Parted bill link manifest manifest_text) text (inl is) = inl is
text_among (Parted bill link manifest manifest_text) text (inr is) = inr (inl is)
text_among (Begun bill chain manifest body) text (inl (link, among, is)) =
    among_more text (texts_of_body (body_in body)) (map (λ (l : ChainLink). l.text.0) chain)
    (subst (λ (t : List ℕ). IsAmong t (map (λ (l : ChainLink). l.text.0) chain)) is
    (among_map (λ (l : ChainLink). l.text.0) chain link among))
text_among (Begun bill chain manifest body) text (inr (came, is)) =
    among_before text (texts_of_body (body_in body)) (map (λ (l : ChainLink). l.text.0) chain)
    (subst (λ (o : Option BodyRecord). IsAmong text (texts_of_body o))
    (sym (body_of_bill bill chain manifest body came)) (on_part is))
  where
    on_part : (canon came.parts.document ≡ text) ⊎ (came.parts.manifest.0 ≡ text)
        → IsAmong text (texts_of_body (Some came.parts))
    on_part (inl document) = inl document
    on_part (inr manifest_text) = inr (inl manifest_text)
text_among (Acted bill transaction) text is = absurd is
text_among (Attached bill piece bytes) text is = absurd is
text_among (Settled bill entry) text is = absurd is
text_among (Regained bill entry) text is = absurd is
text_among (Stored bill entry checksum bytes) text is = absurd is
text_among (Taken bill entry) text is = absurd is
text_among (Declined bill entry code reason evidence) text is = absurd is

-- a Begun came with the body that its bytes are
abbrev HasBody : Record → Type 0
HasBody (Begun bill chain manifest body) = IsBodyOf bill chain manifest body
HasBody r = Unit {0}

among_text : (r : Record) (text : List ℕ) → HasBody r → IsAmong text (texts_of r) → IsTextOf r text
among_text (Signed bill document transaction) text has (inl is) = is
among_text (Signed bill document transaction) text has (inr none) = absurd none
among_text (Parted bill link manifest manifest_text) text has (inl is) = inl is
among_text (Parted bill link manifest manifest_text) text has (inr (inl is)) = inr is
among_text (Parted bill link manifest manifest_text) text has (inr (inr none)) = absurd none
among_text (Begun bill chain manifest body) text came among =
    on_parts
    (among_either text (texts_of_body (body_in body)) (map (λ (l : ChainLink). l.text.0) chain) among)
  where
    on_body : IsAmong text (texts_of_body (Some came.parts))
        → IsTextOf (Begun bill chain manifest body) text
    on_body (inl document) = inr (came, inl document)
    on_body (inr (inl manifest_text)) = inr (came, inr manifest_text)
    on_body (inr (inr none)) = absurd none

    on_parts : IsAmong text (texts_of_body (body_in body)) ⊎ IsAmong text (map (λ (l : ChainLink). l.text.0) chain)
        → IsTextOf (Begun bill chain manifest body) text
    on_parts (inl there) =
        on_body (subst (λ (o : Option BodyRecord). IsAmong text (texts_of_body o))
        (body_of_bill bill chain manifest body came) there)
    on_parts (inr there) =
        let link = map_among (λ (l : ChainLink). l.text.0) chain text there in
        inl (link.item, link.among, link.holds)
among_text (Acted bill transaction) text has among = absurd among
among_text (Attached bill piece bytes) text has among = absurd among
among_text (Settled bill entry) text has among = absurd among
among_text (Regained bill entry) text has among = absurd among
among_text (Stored bill entry checksum bytes) text has among = absurd among
among_text (Taken bill entry) text has among = absurd among
among_text (Declined bill entry code reason evidence) text has among = absurd among

body_follows : (me : PlatformCode) (records h : List Record) (r : Record) → MayFollow me records h r → HasBody r
body_follows me records h (Begun bill chain manifest body) follows = follows.body_is
body_follows me records h (Signed bill document transaction) follows = tt
body_follows me records h (Acted bill transaction) follows = tt
body_follows me records h (Attached bill piece bytes) follows = tt
body_follows me records h (Parted bill link manifest manifest_text) follows = tt
body_follows me records h (Settled bill entry) follows = tt
body_follows me records h (Regained bill entry) follows = tt
body_follows me records h (Stored bill entry checksum bytes) follows = tt
body_follows me records h (Taken bill entry) follows = tt
body_follows me records h (Declined bill entry code reason evidence) follows = tt

has_body : (me : PlatformCode) (records : List Record) → AreSound me records
    → (r : Record) → IsAmong r records → HasBody r
has_body me [] sound r among = absurd among
has_body me (x ∷ records) sound r (inl same) =
    subst HasBody same (body_follows me records (of_bill (bill_of x) records) x sound.0)
has_body me (x ∷ records) sound r (inr among) = has_body me records sound.2 r among

-- ---- the texts of a family

-- a text of the family stands among its texts under its name
in_texts : (family : List Member) (text : List ℕ) → IsTextIn family text → IsAmong (named text) (texts_in family)
in_texts family text is =
    among_map named (flat_map texts_of (records_in family)) text
    (among_flat texts_of (records_in family) is.r text (among_records family is.member is.r is.stands)
    (text_among is.r text is.is_text))

-- where the texts in the family's order are distinct, its texts have distinct names
pub names_of_distinct : (family : List Member) → AreDistinct (texts_in family) → HasDistinctNames family
names_of_distinct family distinct s t is_s is_t names =
    distinct (named s) (named t) (in_texts family s is_s) (in_texts family t is_t) names

-- a text under its name, with a text of the family
pub record IsNamedText (family : List Member) (a : Named) : Type 0 where
  pub is_text : IsTextIn family a.text
  pub name_is : checksum_of a.text ≡ a.name

module _ (family : List Member) (F : IsSoundFamily family) where
  -- each of the texts in its order is one of a sound family
  pub text_of_named : (a : Named) → IsAmong a (texts_in family) → IsNamedText family a
  text_of_named a among =
      let t = map_among named (flat_map texts_of (records_in family)) a among in
      let r = flat_among texts_of (records_in family) t.item t.among in
      let there = records_among family r.item r.among in
      let member = there.0 in
      let stands = there.1 in
      let sound = F.sound member stands.listed stands.diary stands.has_diary in
      let body = has_body member.platform (newest_first stands.diary) sound.records r.item stands.has_record in
      let is_text : IsTextIn family t.item = record {
        member = member;
        r = r.item;
        stands = stands;
        is_text = among_text r.item t.item body r.holds;
      } in
      subst (IsNamedText family) t.holds (record { is_text = is_text; name_is = refl })

  -- the first name that two of them share is one that two different texts of a sound family share
  pub shared_of_first : (name : Checksum) → IsSharedFirst (texts_in family) name → SharesName family name
  shared_of_first name first =
      let whole = first.texts_are in
      let one = text_of_named first.one
      (subst (λ (xs : List Named). IsAmong first.one xs) (sym whole)
      (among_before first.one first.before (first.other ∷ first.after) first.one_before)) in
      let other = text_of_named first.other
      (subst (λ (xs : List Named). IsAmong first.other xs) (sym whole)
      (among_more first.other first.before (first.other ∷ first.after) (inl refl))) in
      record {
        one = first.one.text;
        other = first.other.text;
        one_in = one.is_text;
        other_in = other.is_text;
        one_named = one.name_is ∙ first.one_named;
        other_named = other.name_is ∙ first.other_named;
        differ = first.differ;
      }
