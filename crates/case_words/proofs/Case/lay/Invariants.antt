-- The words that are left, laid over what is laid so far, are all words laid over what there was.
use Rattle.std.proofs.Common.{◌≡◌}
use Rattle.case_words.specs.Words.{laid_all, words_of}
use Rattle.case_words.specs.Pieces.{pieces_left}
use Rattle.case_words.proofs.Case.lay.Given as goal

abbrev pub invariant-loop-word : goal.invariant-loop-word
invariant-loop-word l = laid_all l.space (pieces_left l.word-iterator) ≡ laid_all l.fn.space (words_of l.fn.self.text.now)
