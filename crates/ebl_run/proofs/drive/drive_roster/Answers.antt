use Rattle.std.proofs.Common.{◌≡◌, ◌≤◌, ◌*◌, ◌∙◌, inl, List, ℕ, Some, None, drop, length, refl, sym, ap, subst, arith}
use Rattle.std.specs.Prelude.{Option}
use Rattle.std.proofs.lemmas.Bool.{false≢true}
use Rattle.std.proofs.lemmas.List.{length-map}
use Rattle.ebl_base.specs.Segments.{segments_of}
use Rattle.platform_world.specs.declared.fate.Fate.{Fate}
use Rattle.ebl_run.specs.Drive.{first_bad, output_of, racks_needed, serve}
use Rattle.ebl_run.specs.Racks.{IsUnfit, keys_of, lengths_of, written_among}
use Rattle.ebl_run.specs.Safe.{RunsBehind}
use Rattle.ebl_run.specs.Status.{EndsAs, IsCausedBy, IsDriveEnd}
use Rattle.ebl_run.specs.declared.status.Status.{Status}
use Rattle.ebl_run.proofs.DriveLemmas.{handed_behind, never_begun, ran_behind, refused_cause, refused_ends, refused_handed, refused_put, refused_wrote, they_serve}
use Rattle.ebl_run.proofs.Worlds.{lengths_measured, told_measured}
use Rattle.ebl_run.proofs.drive.drive_roster.Goals as goal

-- the racks serve as they did before they were measured
pub drive_world-requires-clause-told : goal.drive_world-requires-clause-told
drive_world-requires-clause-told g c =
    told_measured g.D.Disk.tells g.D.Disk.seen g.D.Disk.faults c.args.racks.items c.measure.new.racks.items
    c.measure.ensures.measured c.requires.told

pub drive_world-requires-clause-serve : goal.drive_world-requires-clause-serve
drive_world-requires-clause-serve g c =
    let needed : 16 * length c.platforms.result.now ≡ racks_needed c.args.roster = ap (λ ps. 16 * length ps) c.platforms.ensures in
    let lengths = lengths_of g.D.Disk.seen c.args.racks.items in
    let enough : racks_needed c.args.roster ≤ length lengths =
    omega (arith, c.in-Ok.ensures.enough, needed, length-map c.args.racks.items (λ rack. length (g.D.Disk.seen rack.disk))) in
    let blank = ap (λ (n : ℕ). written_among n lengths) (sym needed) ∙ c.in-Ok.ensures.blank in
    ap (serve (racks_needed c.args.roster)) (lengths_measured g.D.Disk.tells g.D.Disk.seen g.D.Disk.faults c.args.racks.items c.measure.new.racks.items c.measure.ensures.measured)
    ∙ they_serve (racks_needed c.args.roster) lengths enough blank

pub returns-in-Ok-clause-cause : goal.returns-in-Ok-clause-cause
returns-in-Ok-clause-cause g c =
    let lengths = lengths_of g.D.Disk.seen c.args.racks.items in
    let needed : 16 * length c.platforms.result.now ≡ racks_needed c.args.roster = ap (λ ps. 16 * length ps) c.platforms.ensures in
    let blank : written_among (racks_needed c.args.roster) lengths ≡ None =
    ap (λ (n : ℕ). written_among n lengths) (sym needed) ∙ c.in-Ok.ensures.blank in
    subst (λ (o : Option ℕ). IsCausedBy c.drive_world.result.status (first_bad c.args.roster 1 (segments_of 10 c.args.lines.now))
    (length c.args.racks.items) (racks_needed c.args.roster) o) (sym blank)
    (subst (λ (n : ℕ). IsCausedBy c.drive_world.result.status (first_bad c.args.roster 1 (segments_of 10 c.args.lines.now))
    n (racks_needed c.args.roster) None) c.measure.ensures.measured.length_is c.drive_world.ensures.cause)

pub returns-in-Ok-clause-ran : goal.returns-in-Ok-clause-ran
returns-in-Ok-clause-ran g c served =
    ran_behind g.D.Disk.tells g.D.Disk.seen g.D.Disk.may_leave g.D.Disk.faults g.G.KeyRing.keys g.G.KeyRing.faults
    c.args.racks.items c.measure.new.racks.items c.args.roster (segments_of 10 c.args.lines.now) c.drive_world.result
    (g.K.Sink.written c.args.sink.now) (g.K.Sink.written c.drive_world.new.sink) c.measure.ensures.measured
    c.drive_world.ensures.ran

pub returns-in-Ok-clause-refused : goal.returns-in-Ok-clause-refused
returns-in-Ok-clause-refused g c unserved =
    let needed : 16 * length c.platforms.result.now ≡ racks_needed c.args.roster = ap (λ ps. 16 * length ps) c.platforms.ensures in
    let lengths = lengths_of g.D.Disk.seen c.args.racks.items in
    let enough : racks_needed c.args.roster ≤ length lengths =
    omega (arith, c.in-Ok.ensures.enough, needed, length-map c.args.racks.items (λ rack. length (g.D.Disk.seen rack.disk))) in
    let blank = ap (λ (n : ℕ). written_among n lengths) (sym needed) ∙ c.in-Ok.ensures.blank in
    absurd (false≢true (sym unserved ∙ they_serve (racks_needed c.args.roster) lengths enough blank))

pub returns-in-Ok-clause-racks : goal.returns-in-Ok-clause-racks
returns-in-Ok-clause-racks g c =
    let needed : 16 * length c.platforms.result.now ≡ racks_needed c.args.roster = ap (λ ps. 16 * length ps) c.platforms.ensures in
    let further = subst (λ (n : ℕ). drop n c.measure.new.racks.items ≡ drop n c.args.racks.items) needed c.measure.ensures.further in
    handed_behind g.D.Disk.tells g.D.Disk.seen g.D.Disk.faults g.G.KeyRing.faults (racks_needed c.args.roster)
    c.args.racks.items c.measure.new.racks.items c.drive_world.result c.measure.ensures.measured further
    c.drive_world.ensures.touched c.drive_world.ensures.racks

pub returns-in-Ok-clause-unwritten : goal.returns-in-Ok-clause-unwritten
returns-in-Ok-clause-unwritten g c before = absurd (c.drive_world.ensures.touched before)

pub returns-in-Err-clause-cause : goal.returns-in-Err-clause-cause
returns-in-Err-clause-cause g c =
    let bad = first_bad c.args.roster 1 (segments_of 10 c.args.lines.now) in
    let needed : 16 * length c.platforms.result.now ≡ racks_needed c.args.roster = ap (λ ps. 16 * length ps) c.platforms.ensures in
    let why = subst (λ (n : ℕ). IsUnfit g.D.Disk.seen g.D.Disk.faults n c.args.racks.items c.measure.new.racks.items c.in-Err.unfit) needed c.in-Err.ensures.unfit in
    subst (λ (s : Status). IsCausedBy s bad (length c.args.racks.items) (racks_needed c.args.roster)
    (written_among (racks_needed c.args.roster) (lengths_of g.D.Disk.seen c.args.racks.items))) (sym c.at_once.ensures.status)
    (refused_cause g.D.Disk.seen g.D.Disk.faults (racks_needed c.args.roster) c.args.racks.items c.measure.new.racks.items
    c.in-Err.unfit bad c.refuse-status.result why c.refuse-status.ensures)

pub returns-in-Err-clause-ran : goal.returns-in-Err-clause-ran
returns-in-Err-clause-ran g c served =
    let bad = first_bad c.args.roster 1 (segments_of 10 c.args.lines.now) in
    let needed : 16 * length c.platforms.result.now ≡ racks_needed c.args.roster = ap (λ ps. 16 * length ps) c.platforms.ensures in
    let why = subst (λ (n : ℕ). IsUnfit g.D.Disk.seen g.D.Disk.faults n c.args.racks.items c.measure.new.racks.items c.in-Err.unfit) needed c.in-Err.ensures.unfit in
    let now = g.K.Sink.written c.args.sink.now in
    record {
      run = never_begun;
      runs = subst (λ (fs : List Fate). RunsBehind c.args.roster (segments_of 10 c.args.lines.now)
          (keys_of g.G.KeyRing.keys c.args.racks.items) fs never_begun) (sym c.at_once.ensures.fates) (inl (refl, refl));
      wrote = subst (λ (s : Status). EndsAs s (λ out. out ≡ output_of never_begun) now now) (sym c.at_once.ensures.status)
          (refused_wrote g.D.Disk.seen g.D.Disk.faults (racks_needed c.args.roster) c.args.racks.items
          c.measure.new.racks.items c.in-Err.unfit bad c.refuse-status.result now why c.refuse-status.ensures served);
      left = λ place shard old new is was after. let no : None ≡ Some shard = is in cc no;
    }

pub returns-in-Err-clause-refused : goal.returns-in-Err-clause-refused
returns-in-Err-clause-refused g c unserved = (c.at_once.ensures.fates, refl)

pub returns-in-Err-clause-racks : goal.returns-in-Err-clause-racks
returns-in-Err-clause-racks g c =
    let bad = first_bad c.args.roster 1 (segments_of 10 c.args.lines.now) in
    let needed : 16 * length c.platforms.result.now ≡ racks_needed c.args.roster = ap (λ ps. 16 * length ps) c.platforms.ensures in
    let why = subst (λ (n : ℕ). IsUnfit g.D.Disk.seen g.D.Disk.faults n c.args.racks.items c.measure.new.racks.items c.in-Err.unfit) needed c.in-Err.ensures.unfit in
    let further = subst (λ (n : ℕ). drop n c.measure.new.racks.items ≡ drop n c.args.racks.items) needed c.measure.ensures.further in
    refused_handed g.D.Disk.tells g.D.Disk.seen g.D.Disk.faults g.G.KeyRing.faults (racks_needed c.args.roster)
    c.args.racks.items c.measure.new.racks.items c.in-Err.unfit bad c.refuse-status.result c.at_once.result
    c.measure.ensures.measured further why c.refuse-status.ensures c.at_once.ensures.status c.at_once.ensures.racks
    c.at_once.ensures.fates

pub returns-in-Err-clause-end : goal.returns-in-Err-clause-end
returns-in-Err-clause-end g c =
    subst IsDriveEnd (sym c.at_once.ensures.status)
    (refused_ends c.in-Err.unfit (first_bad c.args.roster 1 (segments_of 10 c.args.lines.now)) c.refuse-status.result c.refuse-status.ensures)

pub returns-in-Err-clause-write_fault : goal.returns-in-Err-clause-write_fault
returns-in-Err-clause-write_fault g c is =
    absurd (refused_put c.in-Err.unfit (first_bad c.args.roster 1 (segments_of 10 c.args.lines.now)) c.refuse-status.result
    c.refuse-status.ensures (sym c.at_once.ensures.status ∙ is))
