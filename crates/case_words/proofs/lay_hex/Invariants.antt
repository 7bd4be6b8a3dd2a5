-- The bytes of the digits that are left, put over what is put so far, are all bytes put over what there was.
use Rattle.std.proofs.Common.{◌≡◌, ◌+◌}
use Rattle.std.proofs.lemmas.List.Edits.{sets}
use Rattle.case_words.specs.Words.{bytes_of}
use Rattle.case_words.proofs.lay_hex.Given as goal

abbrev pub invariant-loop-i : goal.invariant-loop-i
invariant-loop-i l = record {
  pairs : l.i-iterator.iter.size ≡ 2;
  laid : sets l.space (l.at + l.i-iterator.count) (bytes_of l.i-iterator.iter.rest.now) ≡ sets l.fn.space l.at (bytes_of l.fn.hex);
}
