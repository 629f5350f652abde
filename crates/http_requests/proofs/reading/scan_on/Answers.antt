use Rattle.std.proofs.Common.{◌∙◌}
use Rattle.http_requests.proofs.ReadingLemmas.{head_end-further}
use Rattle.http_requests.proofs.reading.scan_on.Goals as goal

pub returns : goal.returns
returns c =
    let until = c.min-until.ensures in
    let over = rw until at c.over.ensures in
    over ∙ head_end-further c.args.seen c.args.state c.args.buffer.now c.requires.seen c.requires.short c.requires.scanned
