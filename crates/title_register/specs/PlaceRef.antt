-- The place that references are of.
use Rattle.bill_diary.specs.declared.bill_place.BillPlace.{BillPlace}
use Rattle.bill_diary.specs.declared.bill_place.BillPlace.TheVariants.{Absent, Held, Parting, Gone}
use Rattle.title_register.specs.declared.place_ref.PlaceRef.{PlaceRef}
use Rattle.title_register.specs.declared.place_ref.PlaceRef.TheVariants as refs

abbrev pub place_view : PlaceRef → BillPlace
place_view refs.Absent = Absent
place_view (refs.Held known since) = Held known.now since.now
place_view (refs.Parting known entry) = Parting known.now entry.now
place_view (refs.Gone known) = Gone known.now
