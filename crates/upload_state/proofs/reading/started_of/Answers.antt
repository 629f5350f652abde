use Rattle.std.proofs.Common.{◌≤◌, codes, sym, ◌∙◌, subst}
use Rattle.canonical_json.specs.Field.{list_of}
use Rattle.canonical_json.specs.View.{view, items_view}
use Rattle.json_forms.specs.Reading.{checksum_in}
use Rattle.json_forms.proofs.RoundTrips.{count_of-all_of}
use Rattle.upload_state.proofs.StartedLemmas.{within-read, AreChecksums-read}
use Rattle.upload_state.proofs.reading.started_of.Goals as goal

pub returns-clause-form : goal.returns-clause-form
returns-clause-form c =
    let values = items_view c.in-Some-required_items.items.now in
    let count = within-read 1 16 (list_of (codes "missing") (view c.args.json.now)) values
    (sym c.in-Some-required_items.ensures) in
    let all = sym c.in_ok-missing.ensures ∙ c.in-Some-2.is in
    let same = count_of-all_of checksum_in values c.in-Some-2.missing all in
    record {
      reference = c.in-Some.ensures.form;
      least = subst (λ n. 1 ≤ n) same count.least;
      most = subst (λ n. n ≤ 16) same count.most;
      missing = AreChecksums-read values c.in-Some-2.missing all;
    }
