-- `capture::open_as` meets its contract: it opens by the file header's answer (`by_header`).
use Rattle.std.proofs.Common.{sym, ap, ◌∙◌, rules, ◌≡◌, Err}
use Rattle.savefile.specs.Headers.{of_file_header}
use Rattle.savefile.proofs.Header.{format_told}
use Rattle.capture.proofs.Opening.{by_header}
use Rattle.capture.proofs.walk.open_as.Goals as goal

pub returns : goal.returns
returns c =
    let told = sym (ap of_file_header c.in_ok-format.was) ∙ c.file_header.ensures in
    rw (format_told _ _ _ told) (by_header _ _ _ _ told)

pub returns-in_err-format : goal.returns-in_err-format
returns-in_err-format c =
    let told = sym (ap of_file_header c.in_err-format.was) ∙ c.file_header.ensures in
    let refused : c.from_residual.result ≡ Err c.in_err-format.field-0.0 = search rules in
    rw refused (by_header _ _ _ _ told)
