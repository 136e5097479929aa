-- The notes of a receiver, as bytes of text.
use Rattle.std.specs.Prelude.{ℕ, List, [], ◌++◌, codes, decimal}
use Rattle.mmt_mpt.specs.declared.mpt_why.MptWhy.{MptWhy}
use Rattle.mmt_mpt.specs.declared.mpt_why.MptWhy.TheVariants as mpt
use Rattle.mmt_words.specs.Words.{why_words, mpu_words, sig_word, message_word, mpt_word, times_word}
use Rattle.mmt_output.specs.declared.notes.Note.{Note}
use Rattle.mmt_output.specs.declared.notes.Note.TheVariants as notes

-- the number of a message and a place in it, each after a blank (this project's own words)
abbrev pub place_words : ℕ → ℕ → List ℕ
place_words message at = codes " " ++ decimal message ++ codes " " ++ decimal at

-- after the refusal of an MPT: the asset with a clock relation, or the type of a location (this project's own words)
unfoldable pub mpt_number : MptWhy → List ℕ
mpt_number mpt.Short = []
mpt_number mpt.Length = []
mpt_number (mpt.ClockRelation asset) = codes " " ++ decimal asset
mpt_number (mpt.LocationKind kind) = codes " " ++ decimal kind

-- a note: its word, and the numbers after it; where no place in a message is meant, it is 0 (this project's own words)
unfoldable pub note_words : Note → List ℕ
note_words (notes.Hearing why) = why_words why
note_words notes.Generic = codes "generic"
note_words notes.Elsewhere = codes "elsewhere"
note_words (notes.Mpu why) = mpu_words why
note_words (notes.Signalling why) = sig_word why
note_words (notes.Late clock) = codes "late " ++ decimal clock.0
note_words notes.Repeat = codes "repeat"
note_words (notes.Full held length) = codes "full " ++ decimal held ++ codes " " ++ decimal length
note_words (notes.MessageLong message length) = codes "message-long" ++ place_words message 0 ++ codes " " ++ decimal length
note_words (notes.Message message at why) = message_word why ++ place_words message at
note_words (notes.HrbmBound message bound allowed) = codes "hrbm-bound" ++ place_words message 0 ++ codes " " ++ decimal bound ++ codes " " ++ decimal allowed
note_words (notes.HrbmDiffers message) = codes "hrbm-differs" ++ place_words message 0
note_words (notes.Mpt message at why) = mpt_word why ++ place_words message at ++ mpt_number why
note_words (notes.Times message at why) = times_word why ++ place_words message at
note_words (notes.NamesDiffer message packet_id mpu) = codes "names-differ" ++ place_words message 0 ++ codes " " ++ decimal packet_id ++ codes " " ++ decimal mpu
note_words (notes.NamesFull message packet_id mpu) = codes "names-full" ++ place_words message 0 ++ codes " " ++ decimal packet_id ++ codes " " ++ decimal mpu

-- the line of a note: the place in the stream, counted in bytes from its start, the note and a line feed (this project's rule)
unfoldable pub note_text : ℕ → Note → List ℕ
note_text place note = decimal place ++ codes " " ++ note_words note ++ codes "\n"
