use Rattle.std.proofs.Common.{ap, ◌∙◌, ◌++◌, []}
use Rattle.pint_http.specs.Reply.{reply_text, status_line, type_line, length_line, closing_line, line}
use Rattle.pint_http.proofs.reply.reply_text.Goals as goal

pub returns : goal.returns
unfolding reply_text
returns c =
    let body = c.args.body.now in
    let typed = c.in_ok-put_type.ensures ∙ ap (λ l. l ++ type_line body) c.in_ok-text.ensures in
    let measured = c.in_ok-put_length.ensures ∙ ap (λ l. l ++ length_line c.args.status body) typed in
    let closed = c.in_ok-put_closing.ensures ∙ ap (λ l. l ++ closing_line c.args.keeps) measured in
    let headed = c.in_ok-put_line.ensures ∙ ap (λ l. l ++ line []) closed in
    let head = status_line c.args.status ++ type_line body ++ length_line c.args.status body ++ closing_line c.args.keeps ++ line [] in
    c.in_ok-put.ensures ∙ ap (λ l. l ++ c.bytes_of.result.now) headed ∙ ap (λ b. head ++ b) c.bytes_of.ensures
