-- One heard packet more, in the words of the definition of keeping.
use Rattle.std.proofs.Common.{◌≡◌, ℕ, ◌+◌, ◌-◌, ◌^◌, ◌≤◌, min, max, Bool, true, false, cond, List, [], ◌∷◌, map, length, filter, Option, Some, refl, sym, ap, subst, ◌∙◌, arith}
use Rattle.std.specs.Prelude.{count_by}
use Rattle.std.proofs.lemmas.List.Sums.{sum_by-cons}
use Rattle.mmt_base.specs.Ticks.{advance}
use Rattle.mmt_model.specs.declared.programmes.Params.{Params}
use Rattle.mmt_model.specs.Packets.{Heard}
use Rattle.mmt_model.specs.Counts.{counted}
use Rattle.mmt_model.specs.Keeping.{Outcome, outcome, clock, is_full, is_late, is_repeated, is_stored, still_kept, kept, kept_after, bytes_of}
use Rattle.mmt_model.specs.Sessions.{clock_of, outcome_at, outcomes, rest_at, start_of}
use Rattle.mmt_model.proofs.Outcomes.{no_more, one_more}
use Rattle.mmt_model.proofs.Sessions.{kept_next, peak_next}
use Rattle.mmt_pool.specs.Holding.{Kept, Holding, held, size_of, is_in_window}
use Rattle.mmt_pool.specs.Outcome.{Shows}
use Rattle.mmt_pool.proofs.Model.{rest-shown}
use Rattle.mmt_peak.specs.Buffers.{shown, Tally, tallied, tally_of, clock_with, clock_after, HasTaken}

pub shows : Shows shown
shows = record { time = λ p. refl; packet_id = λ p. refl; number = λ p. refl; length = λ p. refl }

same_either : (b : Bool) (t : ℕ) → cond b t t ≡ t
same_either true t = refl
same_either false t = refl

advance_same : (t : ℕ) → advance t t ≡ t
unfolding advance
advance_same t = same_either _ t

pub clock_is : (h : Heard) (history : List Heard) → clock_with (clock_after history) h.time ≡ clock_of (h ∷ history)
unfolding clock
clock_is h [] = sym (advance_same h.time)
clock_is h (g ∷ older) = refl

abbrev tally_by : List Outcome → Tally
tally_by fs = record { stored = counted (count_by is_stored fs); late = counted (count_by is_late fs); repeats = counted (count_by is_repeated fs); full = counted (count_by is_full fs) }

same_tally : (a b c d a' b' c' d' : ℕ) → a ≡ a' → b ≡ b' → c ≡ c' → d ≡ d'
    → ◌≡◌ {A = Tally} (record { stored = a; late = b; repeats = c; full = d }) (record { stored = a'; late = b'; repeats = c'; full = d' })
same_tally a b c d a' b' c' d' e f g h = λ i. record { stored = e i; late = f i; repeats = g i; full = h i }

tally_more : (f : Outcome) (fs : List Outcome) → tallied f (tally_by fs) ≡ tally_by (f ∷ fs)
tally_more Outcome.Unopened fs = same_tally _ _ _ _ _ _ _ _ (no_more is_stored Outcome.Unopened fs refl) (no_more is_late Outcome.Unopened fs refl) (no_more is_repeated Outcome.Unopened fs refl) (no_more is_full Outcome.Unopened fs refl)
tally_more Outcome.Late fs = same_tally _ _ _ _ _ _ _ _ (no_more is_stored Outcome.Late fs refl) (one_more is_late Outcome.Late fs refl) (no_more is_repeated Outcome.Late fs refl) (no_more is_full Outcome.Late fs refl)
tally_more Outcome.Repeat fs = same_tally _ _ _ _ _ _ _ _ (no_more is_stored Outcome.Repeat fs refl) (no_more is_late Outcome.Repeat fs refl) (one_more is_repeated Outcome.Repeat fs refl) (no_more is_full Outcome.Repeat fs refl)
tally_more Outcome.Full fs = same_tally _ _ _ _ _ _ _ _ (no_more is_stored Outcome.Full fs refl) (no_more is_late Outcome.Full fs refl) (no_more is_repeated Outcome.Full fs refl) (one_more is_full Outcome.Full fs refl)
tally_more Outcome.Stored fs = same_tally _ _ _ _ _ _ _ _ (one_more is_stored Outcome.Stored fs refl) (no_more is_late Outcome.Stored fs refl) (no_more is_repeated Outcome.Stored fs refl) (no_more is_full Outcome.Stored fs refl)

tally_is : (r : Params) (h : Heard) (history : List Heard) → tallied (outcome_at r h history) (tally_of r history) ≡ tally_of r (h ∷ history)
tally_is r h history = tally_more (outcome_at r h history) (outcomes r history)

held_is : (packets : List Kept) → bytes_of (map shown packets) ≡ held packets
held_is [] = refl
held_is (p ∷ packets) = omega (arith, sum_by-cons (λ (h : Heard). h.length) (shown p) (map shown packets), sum_by-cons size_of p packets, held_is packets)

length_more : (h : Heard) (history : List Heard) → length (h ∷ history) ≡ length history + 1
length_more h history = omega arith

heard_more : (n : ℕ) → min (counted n + 1) (2 ^ 64 - 1) ≡ counted (n + 1)
heard_more n = omega arith

-- one heard packet more: the clock goes on, packets leave the window, and the packet has its outcome
pub taken : (history : List Heard) (h : Heard) (r : Params) (old mid new : Holding) (f : Outcome) (before : Option ℕ) (heard : ℕ) (tally : Tally)
    → HasTaken history (record { params = r; pool = old; clock = before; heard = heard; tally = tally })
    → mid.kept ≡ filter (is_in_window (clock_with before h.time) r.window) old.kept → mid.bound ≡ old.bound → mid.peak ≡ old.peak
    → outcome r (clock_with before h.time) (map shown mid.kept) h ≡ f
    → map shown new.kept ≡ kept_after f (map shown mid.kept) h
    → new.bound ≡ mid.bound → new.peak ≡ max mid.peak (held new.kept)
    → HasTaken (h ∷ history) (record { params = r; pool = new; clock = Some (clock_with before h.time); heard = min (heard + 1) (2 ^ 64 - 1); tally = tallied f tally })
taken history h r old mid new f before heard tally t mid_kept mid_bound mid_peak becomes new_kept new_bound new_peak =
    let now : clock_with before h.time ≡ clock_of (h ∷ history) = ap (λ c. clock_with c h.time) t.clock ∙ clock_is h history in
    let rest : map shown mid.kept ≡ rest_at r h history =
    ap (map shown) mid_kept ∙ (sym (rest-shown shown shows r (clock_with before h.time) old.kept) ∙ (λ i. still_kept r (now i) (t.kept i))) in
    let here : outcome_at r h history ≡ f = sym (λ i. outcome r (now i) (rest i) h) ∙ becomes in
    let kept' : map shown new.kept ≡ kept r (start_of (h ∷ history)) (h ∷ history) =
    new_kept ∙ ((λ i. kept_after (sym here i) (rest i) h) ∙ sym (kept_next r h history)) in
    record {
      bound = new_bound ∙ (mid_bound ∙ t.bound);
      clock = ap Some now;
      kept = kept';
      peak = new_peak ∙ ((λ i. max ((mid_peak ∙ t.peak) i) ((sym (held_is new.kept) ∙ ap bytes_of kept') i)) ∙ sym (peak_next r h history));
      heard = ap (λ n. min (n + 1) (2 ^ 64 - 1)) t.heard ∙ (heard_more (length history) ∙ ap counted (sym (length_more h history)));
      tally = (λ i. tallied (sym here i) (t.tally i)) ∙ tally_is r h history;
    }

-- the same, with the numbers as the program has them
pub taken_so : (history : List Heard) (h : Heard) (r : Params) (old mid new : Holding) (f : Outcome) (before : Option ℕ) (heard : ℕ) (tally : Tally) (now heard' : ℕ) (tally' : Tally)
    → HasTaken history (record { params = r; pool = old; clock = before; heard = heard; tally = tally })
    → now ≡ clock_with before h.time → heard' ≡ min (heard + 1) (2 ^ 64 - 1) → tally' ≡ tallied f tally
    → mid.kept ≡ filter (is_in_window now r.window) old.kept → mid.bound ≡ old.bound → mid.peak ≡ old.peak
    → outcome r now (map shown mid.kept) h ≡ f
    → map shown new.kept ≡ kept_after f (map shown mid.kept) h
    → new.bound ≡ mid.bound → new.peak ≡ max mid.peak (held new.kept)
    → HasTaken (h ∷ history) (record { params = r; pool = new; clock = Some now; heard = heard'; tally = tally' })
taken_so history h r old mid new f before heard tally now heard' tally' t now_is heard_is tally_is' mid_kept mid_bound mid_peak becomes new_kept new_bound new_peak =
    let all = taken history h r old mid new f before heard tally t (mid_kept ∙ ap (λ (n : ℕ). filter (is_in_window n r.window) old.kept) now_is) mid_bound mid_peak
    (ap (λ (n : ℕ). outcome r n (map shown mid.kept) h) (sym now_is) ∙ becomes) new_kept new_bound new_peak in
    let P : ℕ → ℕ → Tally → Type 0 = λ n m k. HasTaken (h ∷ history) (record { params = r; pool = new; clock = Some n; heard = m; tally = k }) in
    subst (λ n. P n heard' tally') (sym now_is) (subst (λ m. P (clock_with before h.time) m tally') (sym heard_is) (subst (λ k. P (clock_with before h.time) (min (heard + 1) (2 ^ 64 - 1)) k) (sym tally_is') all))

-- a packet that is not put into the buffer changes nothing of what is kept
pub passed_by : (r : Params) (now : ℕ) (rest : List Heard) (h : Heard) → h.is_opened ≡ false → outcome r now rest h ≡ Outcome.Unopened
unfolding outcome
passed_by r now rest h shut = rw shut refl

pub peak_stays : (mid : Holding) → held mid.kept ≤ mid.peak → mid.peak ≡ max mid.peak (held mid.kept)
peak_stays mid within = omega arith
