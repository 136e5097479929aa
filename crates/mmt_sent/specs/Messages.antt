-- The signalling messages that are sent of a programme, as bytes.
use Rattle.std.specs.Prelude.{ℕ, ◌%◌, ◌≡◌, Bool, true, false, List, [], ◌∷◌, take}
use Rattle.std.specs.List.{count_by}
use Rattle.mmt_cast.specs.PlanOne.{plan_one}
use Rattle.mmt_cast.specs.Right.{signal_at}
use Rattle.mmt_cast.specs.SentTables.{sent_table}
use Rattle.mmt_model.specs.declared.programmes.Programme.{Programme}
use Rattle.mmt_model.specs.declared.programmes.Signal.{Signal}
use Rattle.mmt_model.specs.declared.programmes.Signal.TheVariants as signals
use Rattle.mmt_mpt.specs.Table.{mpt_spelling}
use Rattle.mmt_sig.specs.Message.{HrbmMessage, MessageValue, PaMessage, message_spelling}
use Rattle.mmt_sig.specs.Tables.{sent_table as listed_table}

-- a signalling message is a table
abbrev pub is_table : Signal → Bool
is_table (signals.Parameters at) = false
is_table (signals.Table at names) = true

-- how many tables stand before a signalling message
unfoldable pub tables_before : Programme → ℕ → ℕ
tables_before programme s = count_by is_table (take s programme.signals)

-- a signalling message as it is sent: a buffer message of version 0 with the programme's values, or a PA message of version 0 with one table, whose version is the count of earlier tables modulo 256 (ISO/IEC 23008-1, the PA message; this project's rule for what is sent)
unfoldable pub message_of_signal : Programme → ℕ → Signal → MessageValue
message_of_signal programme s (signals.Parameters at) = HrbmMessage (record { version = 0; params = programme.params })
message_of_signal programme s (signals.Table at names) = PaMessage (record { version = 0; tables = listed_table (mpt_spelling (sent_table programme (tables_before programme s % 256) names)) ∷ [] })

-- the bytes of the signalling message at a place
unfoldable pub message_bytes : Programme → ℕ → List ℕ
message_bytes programme s = message_spelling (message_of_signal programme s (signal_at programme s))

-- the messages of the worked plan have these bytes
abbrev pub MessagesOfPlanOne : Type 0
MessagesOfPlanOne =
    (message_bytes plan_one 0 ≡ 0xF1 ∷ 0x00 ∷ 0x00 ∷ 0x00 ∷ 0x0C ∷ 0x00 ∷ 0x00 ∷ 0x0F ∷ 0xA0 ∷ 0x00 ∷ 0x01 ∷ 0x00 ∷ 0x00 ∷ 0x00 ∷ 0x00 ∷ 0x03 ∷ 0xE8 ∷ [])
    × (message_bytes plan_one 1 ≡ 0x00 ∷ 0x00 ∷ 0x00 ∷ 0x00 ∷ 0x00 ∷ 0x00 ∷ 0x49 ∷ 0x01 ∷ 0x20 ∷ 0x00 ∷ 0x00 ∷ 0x44 ∷ mpt_spelling (sent_table plan_one 0 ((0, 0) ∷ [])))
