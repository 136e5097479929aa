-- What a line tells of signalling, which is this project's own: the messages of a payload, and in a PA message each MPT and each PLT.
use Rattle.std.specs.Prelude.{ℕ, List, [], ◌++◌, length, codes, decimal, Result, Ok, Err, ◌==◌, if◌then◌else◌}
use Rattle.std.specs.List.{flat_map}
use Rattle.mmt_base.specs.declared.refused.Refused.{Refused}
use Rattle.mmt_model.specs.declared.keys.Part.{Part}
use Rattle.mmt_model.specs.declared.keys.Part.TheVariants as parts
use Rattle.mmt_model.specs.declared.programmes.Params.{Params}
use Rattle.mmt_sig.specs.declared.message.MessageWhy.{MessageWhy}
use Rattle.mmt_model.specs.Parts.{part_number}
use Rattle.mmt_sig.specs.Payload.{Payload}
use Rattle.mmt_sig.specs.Tables.{ListedTable}
use Rattle.mmt_sig.specs.Message.{MessageValue, PaMessage, HrbmMessage, OtherMessage}
use Rattle.mmt_sig.specs.MessageReading.{message_of}
use Rattle.mmt_mpt.specs.declared.mpt_why.MptWhy.{MptWhy}
use Rattle.mmt_mpt.specs.Table.{MptValue, mpt_id}
use Rattle.mmt_mpt.specs.TableReading.{mpt_of}
use Rattle.mmt_services.specs.Table.{plt_id}
use Rattle.mmt_services.specs.TableReading.{plt_of}
use Rattle.mmt_times.specs.NamesOf.{names_of}
use Rattle.mmt_words.specs.Words.{message_word, mpt_word}
use Rattle.mmt_list.specs.Names.{configured, named_text}
use Rattle.mmt_list.specs.Services.{plt_text}

-- a message or an MPT that is refused, by the word alone (this project's own)
unfoldable pub refused_part : List ℕ → List ℕ
refused_part word = codes " [refused " ++ word ++ codes "]"

-- an MPT: how many assets it has and its names, or its refusal (ARIB STD-B60, MMT Package Table)
unfoldable pub mpt_text : Result MptValue (Refused MptWhy) → List ℕ
mpt_text (Ok v) = codes " [mpt " ++ decimal (length v.assets) ++ flat_map named_text (names_of configured v) ++ codes "]"
mpt_text (Err e) = refused_part (mpt_word e.why)

-- a table of a PA message: nothing where it is neither an MPT nor a PLT (ISO/IEC 23008-1, PA message)
unfoldable pub table_text : ListedTable → List ℕ
table_text t = if t.id == mpt_id then mpt_text (mpt_of t.bytes) else (if t.id == plt_id then plt_text (plt_of t.bytes) else [])

-- a buffer message: the bound in bytes, the window and the delay in ticks (this project's own message)
unfoldable pub hrbm_text : Params → List ℕ
hrbm_text p = codes " [hrbm " ++ decimal p.bound ++ codes " " ++ decimal p.window ++ codes " " ++ decimal p.delay ++ codes "]"

-- any other message, by its id (ISO/IEC 23008-1, message_id)
unfoldable pub other_text : ℕ → List ℕ
other_text id = codes " [message " ++ decimal id ++ codes "]"

-- a message: the number of tables of a PA message and the tables, the values of a buffer message, the id of any other, or its refusal (ISO/IEC 23008-1, signalling messages)
unfoldable pub message_text : Result MessageValue (Refused MessageWhy) → List ℕ
message_text (Ok (PaMessage p)) = codes " [pa " ++ decimal (length p.tables) ++ flat_map table_text p.tables ++ codes "]"
message_text (Ok (HrbmMessage h)) = hrbm_text h.params
message_text (Ok (OtherMessage id bytes)) = other_text id
message_text (Err e) = refused_part (message_word e.why)

-- the message that bytes are (ISO/IEC 23008-1, signalling messages)
abbrev pub read_text : List ℕ → List ℕ
read_text message = message_text (message_of message)

-- the messages of a payload that carries whole ones, and none for a part of one (this project's rule)
abbrev pub whole_text : Part → List (List ℕ) → List ℕ
whole_text parts.Whole messages = flat_map read_text messages
whole_text parts.First messages = []
whole_text parts.Middle messages = []
whole_text parts.Last messages = []

-- the messages of a payload (ISO/IEC 23008-1, the header of the signalling message mode)
abbrev pub messages_text : Payload → List ℕ
messages_text v = whole_text v.head.part v.messages

-- a signalling payload: which part of a message it carries, and how many messages (ISO/IEC 23008-1, the header of the signalling message mode)
unfoldable pub sig_text : Payload → List ℕ
sig_text v = codes " | sig part " ++ decimal (part_number v.head.part) ++ codes " messages " ++ decimal (length v.messages)
