use Rattle.std.proofs.Common.{◌≡◌, ◌<◌, ◌^◌, Result, Ok, Err, OnOk, is_err, true, false, length, sym, ◌∙◌, arith}
use Rattle.bill_journal.proofs.journal.Journal.append.Goals as goal

-- a call that didn't fail answered Ok
at_ok : {T E : Type 0} (r : Result T E) (P : Type 0) → is_err r ≡ false → OnOk r P → P
at_ok (Ok x) P ok p = p
at_ok (Err e) P ok p = absurd (let clash : true ≡ false = ok in cc)

pub returns-then-is_err-clause-any_moment : goal.returns-then-is_err-clause-any_moment
returns-then-is_err-clause-any_moment g c =
    let short : length c.args.frame.now < 2 ^ 32 = omega (arith, c.bytes-bytes.ensures.short) in
    rw (← c.self.view_is)
    (λ h told settled.
    c.write_frame.ensures.any_moment h c.args.frame.now told settled short c.bytes-bytes.ensures.bytes)

pub returns-clause-appended : goal.returns-clause-appended
returns-clause-appended g c =
    let short : length c.args.frame.now < 2 ^ 32 = omega (arith, c.bytes-bytes.ensures.short) in
    rw (← c.self.view_is) (λ h told settled.
    at_ok c.write_frame.result _ (sym c.is_err.ensures.value ∙ c.if-is_err.false)
    (c.write_frame.ensures.appended h c.args.frame.now told settled short c.bytes-bytes.ensures.bytes))

pub returns-clause-any_moment : goal.returns-clause-any_moment
returns-clause-any_moment g c =
    let short : length c.args.frame.now < 2 ^ 32 = omega (arith, c.bytes-bytes.ensures.short) in
    rw (← c.self.view_is)
    (λ h told settled.
    c.write_frame.ensures.any_moment h c.args.frame.now told settled short c.bytes-bytes.ensures.bytes)
