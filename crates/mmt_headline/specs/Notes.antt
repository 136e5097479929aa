-- What a receiver notes of the packets of a delivery of a cast of a programme.
use Rattle.std.specs.Prelude.{◌≡◌, ℕ, List, [], ◌∷◌, ◌++◌}
use Rattle.std.specs.List.{AllByRecursion}
use Rattle.mmt_hear.specs.declared.why.Why.{Why}
use Rattle.mmt_model.specs.Delivery.{newest_first}
use Rattle.mmt_model.specs.Survival.{AreOf}
use Rattle.mmt_model.specs.declared.casts.Cast.{Cast}
use Rattle.mmt_model.specs.declared.programmes.Programme.{Programme}
use Rattle.mmt_output.specs.declared.notes.Note.{Note}
use Rattle.mmt_recv.specs.Noting.{PlacedNote, lines_of, noted, notes_of_packet}
use Rattle.mmt_tune.specs.Tuning.{Placed, packets_of as tlv_of}
use Rattle.mmt_tune.specs.declared.config.Config.{Config}
use Rattle.mmt_headline.specs.Programmes.{IsSendable, Receives}
use Rattle.mmt_sent.specs.Stream.{stream_of}
use Rattle.mmt_model.specs.Received.{IsNear}
use Rattle.mmt_hear.specs.declared.why.Why.TheVariants as why
use Rattle.mmt_output.specs.declared.notes.Note.TheVariants as notes

-- a packet is not heard since its context has no header yet
abbrev pub IsUnopened : Why → Type 0
IsUnopened (why.CtxNone context) = Unit {0}
IsUnopened _ = ⊥

-- a note is `late`, `repeat` or `ctx-none`
abbrev pub IsQuiet : Note → Type 0
IsQuiet (notes.Late clock) = Unit {0}
IsQuiet notes.Repeat = Unit {0}
IsQuiet (notes.Hearing reason) = IsUnopened reason
IsQuiet _ = ⊥

-- all these notes are
abbrev pub AreQuiet : List PlacedNote → Type 0
AreQuiet ns = AllByRecursion (λ x. IsQuiet x.note) ns

-- of each packet of a near delivery only `late`, `repeat` and `ctx-none` are noted
abbrev pub NotesAreQuiet : Type 0
NotesAreQuiet =
    (config : Config) (programme : Programme) (cast : Cast) (files : ℕ → List ℕ) (delivery : List ℕ) (n : ℕ) (older : List Placed) (p : Placed) → IsSendable programme cast files → Receives config programme
    → AreOf cast.packets (delivery ++ n ∷ []) → IsNear cast programme.full_every (delivery ++ n ∷ [])
    → tlv_of (p ∷ older) ≡ newest_first (stream_of programme cast files (delivery ++ n ∷ []))
    → AreQuiet (notes_of_packet config older p)

-- the notes of a near delivery, as lines, are those of `late`, `repeat` and `ctx-none` alone
abbrev pub StreamsAreQuiet : Type 0
StreamsAreQuiet =
    (config : Config) (programme : Programme) (cast : Cast) (files : ℕ → List ℕ) (delivery : List ℕ) (ps : List Placed) → IsSendable programme cast files → Receives config programme
    → AreOf cast.packets delivery → IsNear cast programme.full_every delivery
    → tlv_of ps ≡ newest_first (stream_of programme cast files delivery)
    → (ns : List PlacedNote) × AreQuiet ns × (noted config ps ≡ lines_of ns)
