use Rattle.std.proofs.Common.{◌≡◌, ◌≤◌, ◌*◌, ◌∙◌, ℕ, None, drop, length, refl, sym, ap, subst, arith}
use Rattle.std.proofs.KnownBytes.{Appends-nil}
use Rattle.std.proofs.lemmas.List.{length-map}
use Rattle.party_roster.specs.RosterRecord.{RosterRecord}
use Rattle.rehearsal.specs.Roster.{made_roster}
use Rattle.ebl_run.specs.Drive.{racks_needed, serve}
use Rattle.ebl_run.specs.Racks.{IsUnfit, lengths_of, status_of, written_among}
use Rattle.ebl_run.specs.Status.{IsCausedBy, IsRehearsalEnd}
use Rattle.ebl_run.specs.declared.status.Status.{Status}
use Rattle.ebl_run.specs.declared.status.Status.TheVariants.{NoMemory}
use Rattle.ebl_run.proofs.DriveLemmas.{handed_at_once, handed_behind, memory_is_no_open, refused_cause, refused_handed, refused_put, they_serve}
use Rattle.ebl_run.proofs.RehearseLemmas.{memory_is_no_put, nothing, refused_plainly, rehearsed_behind, rehearsed_nothing, unfit_nothing, unfit_rehearsal_ends}
use Rattle.ebl_run.proofs.Worlds.{lengths_measured, told_measured}
use Rattle.ebl_run.proofs.rehearse.rehearse.Goals as goal

pub returns-in_default-clause-rehearsed : goal.returns-in_default-clause-rehearsed
returns-in_default-clause-rehearsed g c =
    let now = g.K.Sink.written c.args.sink.now in
    rehearsed_nothing g.D.Disk.seen g.D.Disk.may_leave g.D.Disk.faults g.G.KeyRing.keys g.G.KeyRing.faults
    c.args.seed c.args.bills c.args.steps c.args.racks.items c.at_once.result NoMemory now now c.at_once.ensures.status
    (nothing, refl, refl, Appends-nil now) memory_is_no_put

pub returns-in_default-clause-racks : goal.returns-in_default-clause-racks
returns-in_default-clause-racks g c =
    handed_at_once g.D.Disk.faults g.G.KeyRing.faults (racks_needed made_roster) c.args.racks.items c.at_once.result
    c.at_once.ensures.racks c.at_once.ensures.fates (λ place is. memory_is_no_open place (sym c.at_once.ensures.status ∙ is))

pub rehearse_on-requires-clause-told : goal.rehearse_on-requires-clause-told
rehearse_on-requires-clause-told g c =
    told_measured g.D.Disk.tells g.D.Disk.seen g.D.Disk.faults c.args.racks.items c.measure.new.racks.items
    c.measure.ensures.measured c.requires.told

pub rehearse_on-requires-clause-serve : goal.rehearse_on-requires-clause-serve
rehearse_on-requires-clause-serve g c =
    let needed : 16 * length c.platforms.result.now ≡ racks_needed made_roster =
    ap (λ ps. 16 * length ps) c.platforms.ensures ∙ ap (λ (r : RosterRecord). 16 * length r.platforms) c.in-Ok.ensures.roster in
    let lengths = lengths_of g.D.Disk.seen c.args.racks.items in
    let enough : racks_needed made_roster ≤ length lengths =
    omega (arith, c.in-Ok-measure.ensures.enough, needed, length-map c.args.racks.items (λ rack. length (g.D.Disk.seen rack.disk))) in
    let blank = ap (λ (n : ℕ). written_among n lengths) (sym needed) ∙ c.in-Ok-measure.ensures.blank in
    ap (serve (racks_needed made_roster)) (lengths_measured g.D.Disk.tells g.D.Disk.seen g.D.Disk.faults c.args.racks.items c.measure.new.racks.items c.measure.ensures.measured)
    ∙ they_serve (racks_needed made_roster) lengths enough blank

pub returns-in-Ok-measure-clause-rehearsed : goal.returns-in-Ok-measure-clause-rehearsed
returns-in-Ok-measure-clause-rehearsed g c =
    rehearsed_behind g.D.Disk.seen g.D.Disk.may_leave g.D.Disk.faults g.G.KeyRing.keys g.G.KeyRing.faults
    c.args.seed c.args.bills c.args.steps g.D.Disk.tells c.args.racks.items c.measure.new.racks.items c.rehearse_on.result
    (g.K.Sink.written c.args.sink.now) (g.K.Sink.written c.rehearse_on.new.sink) c.measure.ensures.measured
    c.rehearse_on.ensures.rehearsed

pub returns-in-Ok-measure-clause-racks : goal.returns-in-Ok-measure-clause-racks
returns-in-Ok-measure-clause-racks g c =
    let needed : 16 * length c.platforms.result.now ≡ racks_needed made_roster =
    ap (λ ps. 16 * length ps) c.platforms.ensures ∙ ap (λ (r : RosterRecord). 16 * length r.platforms) c.in-Ok.ensures.roster in
    let further = subst (λ (n : ℕ). drop n c.measure.new.racks.items ≡ drop n c.args.racks.items) needed c.measure.ensures.further in
    handed_behind g.D.Disk.tells g.D.Disk.seen g.D.Disk.faults g.G.KeyRing.faults (racks_needed made_roster)
    c.args.racks.items c.measure.new.racks.items c.rehearse_on.result c.measure.ensures.measured further
    c.rehearse_on.ensures.touched c.rehearse_on.ensures.racks

pub returns-in-Err-clause-rehearsed : goal.returns-in-Err-clause-rehearsed
returns-in-Err-clause-rehearsed g c =
    let now = g.K.Sink.written c.args.sink.now in
    rehearsed_nothing g.D.Disk.seen g.D.Disk.may_leave g.D.Disk.faults g.G.KeyRing.keys g.G.KeyRing.faults
    c.args.seed c.args.bills c.args.steps c.args.racks.items c.at_once-in-Err.result (status_of c.in-Err.unfit) now now
    (c.at_once-in-Err.ensures.status ∙ c.status_of.ensures) (unfit_nothing c.in-Err.unfit now)
    (refused_put c.in-Err.unfit None (status_of c.in-Err.unfit) (refused_plainly c.in-Err.unfit))

pub returns-in-Err-clause-cause : goal.returns-in-Err-clause-cause
returns-in-Err-clause-cause g c =
    let needed : 16 * length c.platforms.result.now ≡ racks_needed made_roster =
    ap (λ ps. 16 * length ps) c.platforms.ensures ∙ ap (λ (r : RosterRecord). 16 * length r.platforms) c.in-Ok.ensures.roster in
    let why = subst (λ (n : ℕ). IsUnfit g.D.Disk.seen g.D.Disk.faults n c.args.racks.items c.measure.new.racks.items c.in-Err.unfit) needed c.in-Err.ensures.unfit in
    subst (λ (s : Status). IsCausedBy s None (length c.args.racks.items) (racks_needed made_roster)
    (written_among (racks_needed made_roster) (lengths_of g.D.Disk.seen c.args.racks.items)))
    (sym (c.at_once-in-Err.ensures.status ∙ c.status_of.ensures))
    (refused_cause g.D.Disk.seen g.D.Disk.faults (racks_needed made_roster) c.args.racks.items c.measure.new.racks.items
    c.in-Err.unfit None _ why (refused_plainly c.in-Err.unfit))

pub returns-in-Err-clause-racks : goal.returns-in-Err-clause-racks
returns-in-Err-clause-racks g c =
    let needed : 16 * length c.platforms.result.now ≡ racks_needed made_roster =
    ap (λ ps. 16 * length ps) c.platforms.ensures ∙ ap (λ (r : RosterRecord). 16 * length r.platforms) c.in-Ok.ensures.roster in
    let why = subst (λ (n : ℕ). IsUnfit g.D.Disk.seen g.D.Disk.faults n c.args.racks.items c.measure.new.racks.items c.in-Err.unfit) needed c.in-Err.ensures.unfit in
    let further = subst (λ (n : ℕ). drop n c.measure.new.racks.items ≡ drop n c.args.racks.items) needed c.measure.ensures.further in
    refused_handed g.D.Disk.tells g.D.Disk.seen g.D.Disk.faults g.G.KeyRing.faults (racks_needed made_roster)
    c.args.racks.items c.measure.new.racks.items c.in-Err.unfit None _ c.at_once-in-Err.result
    c.measure.ensures.measured further why (refused_plainly c.in-Err.unfit)
    (c.at_once-in-Err.ensures.status ∙ c.status_of.ensures) c.at_once-in-Err.ensures.racks c.at_once-in-Err.ensures.fates

pub returns-in-Err-clause-end : goal.returns-in-Err-clause-end
returns-in-Err-clause-end g c =
    subst IsRehearsalEnd (sym (c.at_once-in-Err.ensures.status ∙ c.status_of.ensures)) (unfit_rehearsal_ends c.in-Err.unfit)
