-- How long tables are, by walking over names, MPUs and assets.
use Rattle.std.proofs.Common.{◌≡◌, ℕ, ◌+◌, ◌*◌, ◌<◌, ◌≤◌, nat_le, cond, option_map, List, length, get_or, drop, arith, ap, sym, ◌∙◌, Some, None}
use Rattle.std.proofs.lemmas.List.{at_drop_more, drop_all}
use Rattle.std.proofs.lemmas.List.Sums.{sum_by-cons}
use Rattle.std.proofs.lemmas.Bool.{le-leb, lt-leb}
use Rattle.std.specs.List.{sum_by}
use Rattle.mmt_cast.specs.Placing.{map_from}
use Rattle.mmt_cast.specs.Refusing.{Refusal, first_of, refusal_of_signal, refusal_of_signals}
use Rattle.mmt_cast.specs.Tables.{asset_length, descriptors_length, table_length, extended_length, named_of_asset}
use Rattle.mmt_casting.specs.Ends.{end_of}
use Rattle.mmt_base.specs.declared.ticks.LongTick.{LongTick}
use Rattle.std.specs.Int.{div_ceil}
use Rattle.mmt_casting.specs.declared.ends.CastEnd.TheVariants as ends
use Rattle.mmt_model.specs.declared.programmes.Signal.TheVariants as signals
use Rattle.mmt_model.specs.declared.programmes.Asset.{Asset}
use Rattle.mmt_model.specs.declared.programmes.Programme.{Programme}
use Rattle.mmt_model.specs.declared.programmes.Signal.{Signal}

-- the lengths of the assets from one on
abbrev pub lengths_from : List (ℕ × ℕ) → ℕ → List Asset → ℕ
lengths_from names a assets = sum_by (λ n. n) (map_from (asset_length names) a (drop a assets))

pub lengths-next : (names : List (ℕ × ℕ)) (a : ℕ) (assets : List Asset) (x : Asset) → a < length assets → x ≡ get_or assets a x
    → lengths_from names a assets ≡ asset_length names a x + lengths_from names (a + 1) assets
unfolding map_from
lengths-next names a assets x l is =
    at_drop_more (λ xs. sum_by (λ n. n) (map_from (asset_length names) a xs)) assets a x l
    ∙ sum_by-cons (λ n. n) (asset_length names a (get_or assets a x)) (map_from (asset_length names) (a + 1) (drop (a + 1) assets))
    ∙ ap (λ y. asset_length names a y + lengths_from names (a + 1) assets) (sym is)

pub lengths-past : (names : List (ℕ × ℕ)) (a : ℕ) (assets : List Asset) → length assets ≤ a → lengths_from names a assets ≡ 0
unfolding map_from
lengths-past names a assets l = ap (λ xs. sum_by (λ n. n) (map_from (asset_length names) a xs)) (drop_all a assets l)

-- the refusals of the signals from one on
pub signals-next : (programme : Programme) (s : ℕ) (signals : List Signal) (x : Signal) → s < length signals → x ≡ get_or signals s x
    → refusal_of_signals programme s (drop s signals) ≡ first_of (refusal_of_signal programme s x) (refusal_of_signals programme (s + 1) (drop (s + 1) signals))
unfolding refusal_of_signals
signals-next programme s signals x l is =
    at_drop_more (λ xs. refusal_of_signals programme s xs) signals s x l
    ∙ ap (λ y. first_of (refusal_of_signal programme s y) (refusal_of_signals programme (s + 1) (drop (s + 1) signals))) (sym is)

pub signals-past : (programme : Programme) (s : ℕ) (signals : List Signal) → length signals ≤ s → refusal_of_signals programme s (drop s signals) ≡ None
unfolding refusal_of_signals
signals-past programme s signals l = ap (refusal_of_signals programme s) (drop_all s signals l)

-- the length of an asset by its sums
pub asset-sums : (names : List (ℕ × ℕ)) (a : ℕ) (asset : Asset) (id up named extended : ℕ) → id ≡ length asset.id → length (named_of_asset names a asset) ≡ named → sum_by extended_length (named_of_asset names a asset) ≡ extended
    → up ≡ div_ceil named 21 → 17 + id + (3 * up + 12 * named + extended) ≡ asset_length names a asset
unfolding asset_length descriptors_length
asset-sums names a asset id up named extended ei en ee eu = omega (arith, ei, en, ee, eu ∙ sym (ap (λ n. div_ceil n 21) en))

pub table-sums : (programme : Programme) (names : List (ℕ × ℕ)) (assets : List Asset) (id sum : ℕ) → assets ≡ programme.assets → id ≡ length programme.package → sum_by (λ n. n) (map_from (asset_length names) 0 assets) ≡ sum
    → 9 + id + sum ≡ table_length programme names
unfolding table_length
table-sums programme names assets id sum same ei es = omega (arith, ei, es, ap (λ xs. sum_by (λ n. n) (map_from (asset_length names) 0 xs)) same)

-- the refusal of a message
pub message-plain : (programme : Programme) (s : ℕ) (x : Signal) (at : LongTick) → x ≡ signals.Parameters at → None ≡ option_map end_of (refusal_of_signal programme s x)
unfolding refusal_of_signal
message-plain programme s x at is = sym (ap (λ y. option_map end_of (refusal_of_signal programme s y)) is)

pub message-short : (programme : Programme) (s n : ℕ) (x : Signal) (at : LongTick) (names listed : List (ℕ × ℕ)) → x ≡ signals.Table at names → listed ≡ names → n ≡ table_length programme listed → n ≤ 65535
    → None ≡ option_map end_of (refusal_of_signal programme s x)
unfolding refusal_of_signal
message-short programme s n x at names listed is same value l =
    sym (ap (λ y. option_map end_of (refusal_of_signal programme s y)) is
    ∙ ap (λ t. option_map end_of (cond t None (Some (Refusal.TableLong s)))) (ap (λ k. nat_le k 65535) (sym (value ∙ ap (table_length programme) same)) ∙ le-leb n 65535 l))

pub message-long : (programme : Programme) (s n : ℕ) (x : Signal) (at : LongTick) (names listed : List (ℕ × ℕ)) → x ≡ signals.Table at names → listed ≡ names → n ≡ table_length programme listed → 65535 < n
    → Some (ends.TableLong s) ≡ option_map end_of (refusal_of_signal programme s x)
unfolding refusal_of_signal end_of
message-long programme s n x at names listed is same value l =
    sym (ap (λ y. option_map end_of (refusal_of_signal programme s y)) is
    ∙ ap (λ t. option_map end_of (cond t None (Some (Refusal.TableLong s)))) (ap (λ k. nat_le k 65535) (sym (value ∙ ap (table_length programme) same)) ∙ lt-leb n 65535 l))
