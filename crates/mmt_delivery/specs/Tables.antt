-- What a receiver has of the tables of a near delivery.
use Rattle.std.specs.Prelude.{ℕ, ◌≡◌, ◌<◌, true, List, [], ◌∷◌, ◌++◌, length, map, None}
use Rattle.std.specs.List.{AllByRecursion, flat_map, list_any}
use Rattle.mmt_base.specs.Ticks.{low}
use Rattle.mmt_model.specs.Admission.{fault}
use Rattle.mmt_model.specs.Carrying.{Contents, IsCastOf, numbers, packets_of, table_copy}
use Rattle.mmt_model.specs.Delivery.{NearDelivery, newest_first, start_of}
use Rattle.mmt_model.specs.Entries.{Entry, entries, is_of_same_mpu}
use Rattle.mmt_model.specs.Keeping.{Outcome, clock, kept, outcome, still_kept}
use Rattle.mmt_model.specs.Survival.{AreOf, heard_of}
use Rattle.mmt_model.specs.Units.{Message, joined, message_by, names_of}
use Rattle.mmt_model.specs.declared.casts.Cast.{Cast}
use Rattle.mmt_model.specs.declared.programmes.Params.{Params}
use Rattle.mmt_delivery.specs.Laws.{IsReceiver}

-- among these entries there is one of the MPU, and each of the MPU is this one
pub record IsAmong (all : List Entry) (e : Entry) : Type 0 where
  pub there : list_any (is_of_same_mpu e) all ≡ true
  pub same : AllByRecursion (λ f. is_of_same_mpu e f ≡ true → f ≡ e) all

-- each name in the messages of a stored packet is among the live entries
abbrev pub NamesAreLearned : Type 0
NamesAreLearned =
    (names_in : List ℕ → List Entry) (cast : Cast) (contents : Contents) (k : Params) → fault cast ≡ None → IsCastOf cast contents names_in → IsReceiver cast.params k
    → (ds : List ℕ) (d : ℕ) (after : List ℕ) → AreOf cast.packets ((ds ++ d ∷ []) ++ after) → NearDelivery cast.packets ((ds ++ d ∷ []) ++ after)
    → (let start = low (start_of cast.packets (ds ++ d ∷ [])) in
    let older = map (heard_of (packets_of cast contents)) (newest_first ds) in
    let h = heard_of (packets_of cast contents) d in
    let now = clock start (h ∷ older) in
    outcome k now (still_kept k now (kept k start older)) h ≡ Outcome.Stored
    → AllByRecursion (IsAmong (entries (names_of names_in) k start (h ∷ older))) (names_of names_in (kept k start (h ∷ older)) h))

-- the bytes of a message in parts are those of a table copy of the cast
abbrev pub IsOfCopy : Cast → Contents → Message → Type 0
IsOfCopy cast contents m = (c : ℕ) × (c < length cast.copies) × (m.bytes ≡ joined (map (contents.message_part (table_copy cast c).signal) (numbers 0 (table_copy cast c).count)))

-- each message in parts that is whole in the kept packets is a table of the cast
abbrev pub MessagesAreSent : Type 0
MessagesAreSent =
    (names_in : List ℕ → List Entry) (cast : Cast) (contents : Contents) (k : Params) → fault cast ≡ None → IsCastOf cast contents names_in → IsReceiver cast.params k
    → (ds after : List ℕ) → AreOf cast.packets (ds ++ after) → NearDelivery cast.packets (ds ++ after)
    → (let packets = kept k (low (start_of cast.packets ds)) (map (heard_of (packets_of cast contents)) (newest_first ds)) in
    AllByRecursion (IsOfCopy cast contents) (flat_map (λ p. message_by packets p p.payload) packets))
