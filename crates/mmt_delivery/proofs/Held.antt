-- The kept packets over whole ticks, as places of the cast.
use Rattle.std.proofs.Common.{◌≡◌, ℕ, ◌+◌, ◌<◌, Bool, true, false, not, ◌&&◌, ◌||◌, ◌==◌, nat_lt, nat_le, cond, if◌then◌else◌, max, List, [], ◌∷◌, arith, refl, ap, sym, ◌∙◌, filter}
use Rattle.std.specs.List.{list_any}
use Rattle.std.proofs.lemmas.Bool.Decides.{nat_tests}
use Rattle.mmt_delivery.proofs.Premises.{Begins}
use Rattle.mmt_model.proofs.Counting.{any-occurrences, occurrences-filter}
use Rattle.mmt_model.proofs.Inserting.{occurrences-insert}
use Rattle.mmt_model.specs.Counts.{as_number, occurrences}
use Rattle.mmt_model.specs.Keeping.{is_kept_before}
use Rattle.mmt_model.specs.Sorted.{insert_by}
use Rattle.mmt_model.specs.Survival.{SentPackets, heard_of, is_overtaken, latest, sent_at, survives}
use Rattle.mmt_model.specs.declared.programmes.Params.{Params}

-- the order in which places are kept
unfoldable pub place_before : SentPackets → ℕ → ℕ → Bool
place_before cast j k = is_kept_before (heard_of cast j) (heard_of cast k)

-- those of these places that are in the window of a whole clock
unfoldable pub within : SentPackets → Params → ℕ → List ℕ → List ℕ
within cast r now ks = filter (λ k. nat_lt now (sent_at cast.sent k + r.window)) ks

unfoldable pub held : SentPackets → Params → ℕ → List ℕ → List ℕ
held cast r start [] = []
held cast r start (n ∷ older) =
    let now = latest cast.sent start (n ∷ older) in
    let rest = within cast r now (held cast r start older) in
    if nat_le now (sent_at cast.sent n + r.delay) && not (list_any (λ k. k == n) rest) then insert_by (place_before cast) n rest else rest

-- a packet is overtaken where the clock is more than the delay ahead of it
overtaken_by : (cast : SentPackets) (delay start m : ℕ) (older : List ℕ) (n : ℕ) → Begins cast.sent start (m ∷ older)
    → is_overtaken cast.sent delay (m ∷ older) n ≡ nat_lt (sent_at cast.sent n + delay) (latest cast.sent start (m ∷ older))
unfolding is_overtaken latest
overtaken_by cast delay start m [] n b = let e : max start (sent_at cast.sent m) ≡ sent_at cast.sent m = omega (arith, b) in rw e (go (nat_lt (sent_at cast.sent n + delay) (sent_at cast.sent m)))
  where
    go : (b : Bool) → (b || false) ≡ b
    go true = refl
    go false = refl
overtaken_by cast delay start m (k ∷ older) n b = rw (overtaken_by cast delay start k older n b) (grind (arith, nat_tests))

pub overtaken-latest : (cast : SentPackets) (delay start n : ℕ) (older : List ℕ) → Begins cast.sent start (n ∷ older)
    → is_overtaken cast.sent delay older n ≡ nat_lt (sent_at cast.sent n + delay) (latest cast.sent start older)
unfolding is_overtaken latest
overtaken-latest cast delay start n [] b = grind (arith, nat_tests, b)
overtaken-latest cast delay start n (m ∷ older) b = overtaken_by cast delay start m older n b

pub begins-older : (cast : SentPackets) (start k : ℕ) (older : List ℕ) → Begins cast.sent start (k ∷ older) → Begins cast.sent start older
begins-older cast start k [] b = tt
begins-older cast start k (m ∷ older) b = b

-- how often a place stands in the next_number kept list
pub occurrences-step : (n k : ℕ) (rest more : List ℕ) (in_time any e : Bool) → list_any (λ j. j == k) rest ≡ any → (k == n) ≡ e → occurrences n more ≡ occurrences n rest + as_number (k == n)
    → occurrences n (cond (in_time && not any) more rest) ≡ cond (e && in_time) (max 1 (occurrences n rest)) (occurrences n rest)
occurrences-step n k rest more true true true a is m =
    let same : k ≡ n = grind (arith, nat_tests) in
    let b : nat_lt 0 (occurrences k rest) ≡ true = sym (any-occurrences k rest) ∙ a in
    let c : nat_lt 0 (occurrences n rest) ≡ true = rw same at b in
    let d : 0 < occurrences n rest = grind (arith, nat_tests) in
    omega arith
occurrences-step n k rest more true true false a is m = refl
occurrences-step n k rest more true false true a is m =
    let same : k ≡ n = grind (arith, nat_tests) in
    let b : nat_lt 0 (occurrences k rest) ≡ false = sym (any-occurrences k rest) ∙ a in
    let c : nat_lt 0 (occurrences n rest) ≡ false = rw same at b in
    let d : occurrences n rest ≡ 0 = grind (arith, nat_tests) in
    omega (arith, m, ap as_number is)
occurrences-step n k rest more true false false a is m = omega (arith, m, ap as_number is)
occurrences-step n k rest more false any true a is m = refl
occurrences-step n k rest more false any false a is m = refl

combine : (kn in_time s w : Bool) → (kn ≡ true → in_time ≡ true → w ≡ true)
    → cond (kn && in_time) (max 1 (as_number (s && w))) (as_number (s && w)) ≡ as_number ((kn && in_time || s) && w)
combine true true true true h = refl
combine true true true false h = absurd (cc (h refl refl))
combine true true false true h = refl
combine true true false false h = absurd (cc (h refl refl))
combine true false s w h = refl
combine false in_time s w h = refl

pub window-step : (s before now : Bool) → (now ≡ true → before ≡ true) → cond now (as_number (s && before)) 0 ≡ as_number (s && now)
window-step true true true h = refl
window-step true false true h = absurd (cc (h refl))
window-step false before true h = refl
window-step true before false h = refl
window-step false before false h = refl

-- an occurrence that comes in time is one that was not overtaken
pub in_time-survives : (cast : SentPackets) (delay start k n : ℕ) (older : List ℕ) → Begins cast.sent start (k ∷ older) → (e : Bool) → (k == n) ≡ e
    → (e && nat_le (max (latest cast.sent start older) (sent_at cast.sent k)) (sent_at cast.sent k + delay)) ≡ (e && not (is_overtaken cast.sent delay older n))
in_time-survives cast delay start k n older b true is =
    let same : k ≡ n = grind (arith, nat_tests) in
    rw (← same, overtaken-latest cast delay start k older b) (grind (arith, nat_tests))
in_time-survives cast delay start k n older b false is = refl

-- a kept place is one that survived and is in the window, and it is kept once
pub occurrences-held : (cast : SentPackets) (r : Params) (start : ℕ) (hist : List ℕ) (n : ℕ) → r.delay < r.window → Begins cast.sent start hist
    → occurrences n (held cast r start hist) ≡ as_number (survives cast.sent r.delay hist n && nat_lt (latest cast.sent start hist) (sent_at cast.sent n + r.window))
unfolding held survives latest within
occurrences-held cast r start [] n dw b = refl
occurrences-held cast r start (k ∷ older) n dw b =
    let L : ℕ = latest cast.sent start older in
    let now : ℕ = max L (sent_at cast.sent k) in
    let s : Bool = survives cast.sent r.delay older n in
    let w : Bool = nat_lt now (sent_at cast.sent n + r.window) in
    let w0 : Bool = nat_lt L (sent_at cast.sent n + r.window) in
    let rest : List ℕ = within cast r now (held cast r start older) in
    let t : Bool = nat_le now (sent_at cast.sent k + r.delay) in
    let ih : occurrences n (held cast r start older) ≡ as_number (s && w0) = occurrences-held cast r start older n dw (begins-older cast start k older b) in
    let a : occurrences n rest ≡ as_number (s && w) = occurrences-filter n (λ j. nat_lt now (sent_at cast.sent j + r.window)) (held cast r start older) ∙ (ap (λ x. cond w x 0) ih ∙ window-step s w0 w (λ h. grind (arith, nat_tests))) in
    let c : (k == n) ≡ true → t ≡ true → w ≡ true = λ e h. (let same : k ≡ n = grind (arith, nat_tests) in rw (← same) (grind (arith, nat_tests))) in
    occurrences-step n k rest (insert_by (place_before cast) k rest) t (list_any (λ j. j == k) rest) (k == n) refl refl (omega (arith, occurrences-insert (place_before cast) n k rest))
    ∙ (ap (λ x. cond ((k == n) && t) (max 1 x) x) a
    ∙ (combine (k == n) t s w c
    ∙ ap (λ x. as_number ((x || s) && w)) (in_time-survives cast r.delay start k n older b (k == n) refl)))
