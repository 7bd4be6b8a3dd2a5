-- The digits are the fewest that hold the number, so they are those of the definition, and they go after the text.
use Rattle.std.proofs.Common.{◌≡◌, ◌∙◌, take, arith}
use Rattle.head_lines.specs.HeadLines.{decimal}
use Rattle.head_lines.proofs.Bytes.{fewest_is, both}
use Rattle.head_lines.proofs.append_number.Goals as goal

pub returns-clause-appended : goal.returns-clause-appended
returns-clause-appended c =
    let digits : take c.decimal-k.result c.decimal-k.new.out ≡ decimal c.args.n = c.decimal-k.ensures.digits ∙ fewest_is _ c.args.n c.decimal-k.ensures.len in
    both c.args.text.now _ c.args.line.now c.args.at (omega arith) c.append-at.ensures (rw digits at c.append.ensures)
