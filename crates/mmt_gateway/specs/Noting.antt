-- What a gateway notes of the packets that it leaves out: one line for each, with the place in the stream, counted in bytes from its
-- start, and words (this project's rules).
use Rattle.std.specs.Prelude.{ℕ, ◌+◌, List, [], ◌++◌, codes, decimal}
use Rattle.mmt_hear.specs.Hearing.{ctx_reason}
use Rattle.mmt_words.specs.Words.{why_words}
use Rattle.mmt_gate.specs.declared.expander.ExpandEnd.{ExpandEnd}
use Rattle.mmt_gate.specs.declared.expander.ExpandEnd.TheVariants as expand
use Rattle.mmt_gate.specs.declared.shrinker.ShrinkEnd.{ShrinkEnd}
use Rattle.mmt_gate.specs.declared.shrinker.ShrinkEnd.TheVariants as shrink

-- the line of a place and words
unfoldable pub line : ℕ → List ℕ → List ℕ
line at words = decimal at ++ codes " " ++ words ++ codes "\n"

-- A header-compressed packet that begins at a place and is not expanded. A refusal is told at its own place, which is counted from
-- the body, four bytes after the packet's start, in the words in which a receiver notes it; a payload that is too long is told at
-- the type byte, with its length in bytes. A run that is out of memory ends, and notes no packet for it.
unfoldable pub expand_note : ℕ → ExpandEnd → List ℕ
expand_note place (expand.Refused at why) = line (place + 4 + at) (why_words (ctx_reason why))
expand_note place (expand.TooLong length) = line (place + 1) (codes "gate-long " ++ decimal length)
expand_note place expand.OutOfMemory = []

-- A packet that begins at a place and is header-compressed already: it is told at its type byte. A run that is out of memory ends,
-- and notes no packet for it.
unfoldable pub squeeze_note : ℕ → ShrinkEnd → List ℕ
squeeze_note place shrink.Squeezed = line (place + 1) (codes "gate-squeezed")
squeeze_note place shrink.OutOfMemory = []
