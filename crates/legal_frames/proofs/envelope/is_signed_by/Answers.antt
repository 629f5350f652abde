use Rattle.std.proofs.Common.{refl, sym, subst, IfOk, IsTrue, ◌↔◌, Bool, Result, ◌≢◌}
use Rattle.ebl_base.specs.declared.no_memory.NoMemory.{NoMemory}
use Rattle.signed_envelope.specs.declared.fault.BadSigned.TheVariants as bad
use Rattle.transfer_judge.specs.Legal.{IsSignedBy}
use Rattle.legal_frames.proofs.TestLemmas.{if_refused}
use Rattle.legal_frames.proofs.EnvelopeLemmas.{not_signed, signed_so}
use Rattle.legal_frames.proofs.envelope.is_signed_by.Goals.{in-Ok, in-Err}
use Rattle.legal_frames.proofs.envelope.is_signed_by.Goals as goal

pub returns : goal.returns
returns g c =
    let P : Result Bool NoMemory → Type 0 = λ r. IfOk r (λ so. IsTrue so ↔ IsSignedBy (g.G.KeyRing.keys c.args.ring.now)
    c.args.who c.args.text.now) in
    elim c.match-verify_text.branch [
      | in-Ok w ↦
          subst P (sym w.result-is) (
            λ t. signed_so (g.G.KeyRing.keys c.args.ring.now) c.args.who c.args.text.now c.as_slice.result.now _
                c.as_slice.ensures w.in-Ok.ensures.ok,
            λ x. refl,
          )
      | in-Err w ↦
          subst P (sym w.result-is)
          (if_refused (IsSignedBy (g.G.KeyRing.keys c.args.ring.now) c.args.who c.args.text.now) (w.in-Err.why ≢
          bad.NoMemory) w.not_signed.result
          w.not_signed.ensures
          (not_signed (g.G.KeyRing.keys c.args.ring.now) c.args.who c.args.text.now c.as_slice.result.now w.in-Err.why
          c.as_slice.ensures w.in-Err.ensures.err))
    ]
