-- Between which ticks each unit and each table of the made programme is sent.
use Rattle.std.proofs.Common.{◌≡◌, ℕ, ◌+◌, ◌<◌, ◌≤◌, true, List, [], ◌∷◌, ◌++◌, length, arith, refl, ap, sym, ◌∙◌, subst, true≢false}
use Rattle.std.specs.List.{AllByRecursion}
use Rattle.std.proofs.lemmas.Bool.{eq-eqb, eqb-true}
use Rattle.mmt_base.specs.declared.ticks.LongTick.{LongTick}
use Rattle.mmt_cast.proofs.Copies.{table-in}
use Rattle.mmt_cast.proofs.Covering.{covers_unit, splits, unit-once}
use Rattle.mmt_cast.proofs.Listing.{each-append, each-map_numbers}
use Rattle.mmt_cast.proofs.Rightness.{IsRightSending, right-sendings}
use Rattle.mmt_cast.proofs.Running.{table-span-is, unit-span-is}
use Rattle.mmt_cast.specs.Casting.{Span, span_of_table, span_of_unit}
use Rattle.mmt_cast.specs.Placing.{PlacedUnit, all_units}
use Rattle.mmt_cast.specs.Right.{signal_at, unit_at}
use Rattle.mmt_cast.specs.Sending.{Sending, packet_count, sendings, tick_of_packet}
use Rattle.mmt_cast.specs.Tables.{table_message_length}
use Rattle.mmt_frag.proofs.PartsJoined.{parts-some}
use Rattle.mmt_frag.specs.Cuts.{parts}
use Rattle.mmt_made.proofs.Lists.{each-flat}
use Rattle.mmt_made.proofs.MadeSendings.{audio_sending, block_sendings, sendings-are, video_sending}
use Rattle.mmt_made.specs.Generator.{made_programme}
use Rattle.mmt_model.specs.declared.programmes.Signal.TheVariants as signals

-- ---- units

-- a unit is sent by itself, in one to four packets
abbrev IsOwn : Sending → Type 0
IsOwn (Sending.Parameters s at) = Unit {0}
IsOwn (Sending.Table s at bytes) = Unit {0}
IsOwn (Sending.Alone u x) = (1 ≤ parts x.value.length 1400) × (parts x.value.length 1400 ≤ 4)
IsOwn (Sending.Group first count x bytes) = ⊥

all-own : AllByRecursion IsOwn (sendings made_programme)
all-own =
    subst (AllByRecursion IsOwn) (sym sendings-are)
    (each-append IsOwn _ _ (each-flat IsOwn block_sendings 0 120 (λ b lo hi. (tt, (tt, tt))))
    (each-append IsOwn _ _ (each-map_numbers IsOwn video_sending 0 3600 (λ k lo hi. (omega arith, omega arith)))
    (each-append IsOwn _ _ (each-map_numbers IsOwn audio_sending 0 960 (λ k lo hi. (omega arith, omega arith))) ((omega arith, omega arith), tt))))

limit-is : made_programme.limit ≡ 1400
unfolding made_programme
limit-is = refl

-- where a unit's packets begin and end
record IsSpan (u : ℕ) : Type 0 where
  first : (span_of_unit made_programme u).first.0 ≡ (unit_at made_programme u).value.at.0
  last : (span_of_unit made_programme u).last.0 ≤ (unit_at made_programme u).value.at.0 + 300

span-here : (u : ℕ) (a b : List Sending) (x : Sending) → sendings made_programme ≡ a ++ x ∷ b → covers_unit u x ≡ true → IsOwn x → IsRightSending made_programme x → IsSpan u
unfolding packet_count tick_of_packet made_programme
span-here u a b (Sending.Parameters s at) e covers own right = absurd (true≢false (sym covers))
span-here u a b (Sending.Table s at bytes) e covers own right = absurd (true≢false (sym covers))
span-here u a b (Sending.Group f c x bytes) e covers own right = absurd own
span-here u a b (Sending.Alone v x) e covers own right =
    let same : v ≡ u = eqb-true v u covers in
    let unit : unit_at made_programme u ≡ x = ap (unit_at made_programme) (sym same) ∙ right.1 in
    let span = unit-span-is made_programme u a b (Sending.Alone v x) e covers own.0 in
    let at : (unit_at made_programme u).value.at.0 ≡ x.value.at.0 = ap (λ (y : PlacedUnit). y.value.at.0) unit in
    record { first = omega (arith, ap (λ (s : Span). s.first.0) span, at); last = omega (arith, ap (λ (s : Span). s.last.0) span, at, own.1) }

pub unit-span : (u : ℕ) → u < length (all_units made_programme)
    → ((span_of_unit made_programme u).first.0 ≡ (unit_at made_programme u).value.at.0) × ((span_of_unit made_programme u).last.0 ≤ (unit_at made_programme u).value.at.0 + 300)
unit-span u l =
    let s = splits (covers_unit u) (sendings made_programme) (omega (arith, unit-once made_programme u l)) in
    let own : AllByRecursion IsOwn (s.front ++ s.item ∷ s.back) = subst (AllByRecursion IsOwn) s.is all-own in
    let right : AllByRecursion (IsRightSending made_programme) (s.front ++ s.item ∷ s.back) = subst (AllByRecursion (IsRightSending made_programme)) s.is (right-sendings made_programme) in
    let span : IsSpan u = span-here u s.front s.back s.item s.is s.passes (middle IsOwn s.front s.back s.item own) (middle (IsRightSending made_programme) s.front s.back s.item right) in
    (span.first, span.last)
  where
    middle : (P : Sending → Type 0) (a b : List Sending) (x : Sending) → AllByRecursion P (a ++ x ∷ b) → P x
    middle P [] b x h = h.0
    middle P (y ∷ a) b x h = middle P a b x h.1

-- ---- tables

-- where a table's packets begin and end
pub record IsTableSpan (s at : ℕ) : Type 0 where
  pub first : (span_of_table made_programme s).first.0 ≡ at
  pub after : at ≤ (span_of_table made_programme s).last.0
  pub last : (span_of_table made_programme s).last.0 ≤ at + 100

pub table-span : (s : ℕ) (at : LongTick) (names : List (ℕ × ℕ)) → s < length made_programme.signals → signal_at made_programme s ≡ signals.Table at names → 1 ≤ table_message_length made_programme names
    → parts (table_message_length made_programme names) 1400 ≤ 2 → IsTableSpan s at.0
unfolding packet_count tick_of_packet made_programme
table-span s at names l e some few =
    let t = table-in made_programme s at names l e in
    let x : Sending = Sending.Table s at.0 (table_message_length made_programme names) in
    let span = table-span-is made_programme s t.front t.back x t.is (eq-eqb s s refl) (parts-some (table_message_length made_programme names) 1400 (omega arith) some) in
    record { first = omega (arith, ap (λ (s : Span). s.first.0) span); after = omega (arith, ap (λ (s : Span). s.last.0) span); last = omega (arith, ap (λ (s : Span). s.last.0) span, few) }
