-- The parts of a run lie in distinct kept packets, so they have together no more bytes than are kept.
use Rattle.std.proofs.Common.{◌≡◌, ℕ, zero, suc, ◌+◌, ◌-◌, ◌*◌, ◌%◌, ◌^◌, ◌<◌, ◌≤◌, Bool, true, false, ◌&&◌, ◌==◌, cond, List, [], ◌∷◌, map, length, refl, ap, sym, ◌∙◌, Option, Some, None, arith, sum_by, ◌⊎◌, inl, inr}
use Rattle.std.proofs.lemmas.Bool.{cases_lt, eqb-true}
use Rattle.std.proofs.lemmas.List.{length-append}
use Rattle.std.proofs.lemmas.List.Sums.{sum_by-cons}
use Rattle.mmt_base.specs.Ticks.{ahead_of}
use Rattle.mmt_model.specs.Packets.{Heard, Payload}
use Rattle.mmt_model.specs.Units.{Link, packet_at, link_at, after_link, rest_of_run, next_number, joined}
use Rattle.mmt_pool.specs.Holding.{Kept, held, size_of}
use Rattle.mmt_runs.specs.Reading.{heard}

-- ---- what packets count for together

-- what a packet counts for, where it is there
abbrev pub weight_at : (Heard → ℕ) → Option Heard → ℕ
weight_at w None = 0
weight_at w (Some h) = w h

-- what so many packets from this number on count for together
unfoldable pub weights : (Heard → ℕ) → List Heard → ℕ → ℕ → ℕ → ℕ
weights w kept id zero number = 0
weights w kept id (suc n) number = weight_at w (packet_at kept id number) + weights w kept id n (next_number number)

-- what one number counts for among so many numbers from another on
unfoldable hits : ℕ → ℕ → ℕ → ℕ → ℕ
hits w x zero number = 0
hits w x (suc n) number = cond (x == number) w 0 + hits w x n (next_number number)

pub next_below : (number : ℕ) → next_number number < 2 ^ 32
unfolding next_number
next_below number = omega arith

other : (x number n : ℕ) → x < 2 ^ 32 → number < 2 ^ 32 → suc n ≤ ahead_of x number → (x == number) ≡ false
unfolding ahead_of
other x number n a b h = go (x == number) refl
  where
    go : (t : Bool) → (x == number) ≡ t → t ≡ false
    go true e = absurd (let s : x ≡ number = eqb-true x number e in omega arith)
    go false e = refl

nearer : (x number n : ℕ) → x < 2 ^ 32 → number < 2 ^ 32 → suc n ≤ ahead_of x number → n ≤ ahead_of x (next_number number)
unfolding ahead_of next_number
nearer x number n a b h = omega arith

missed : (w x n number : ℕ) → x < 2 ^ 32 → number < 2 ^ 32 → n ≤ ahead_of x number → hits w x n number ≡ 0
unfolding hits
missed w x zero number a b h = refl
missed w x (suc n) number a b h = rw (other x number n a b h) (omega (arith, missed w x n (next_number number) a (next_below number) (nearer x number n a b h)))

round : (x n : ℕ) → x < 2 ^ 32 → suc n ≤ 2 ^ 32 → n ≤ ahead_of x (next_number x)
unfolding ahead_of next_number
round x n a h = omega arith

once : (w x n number : ℕ) → number < 2 ^ 32 → n ≤ 2 ^ 32 → hits w x n number ≤ w
unfolding hits
once w x zero number a h = omega arith
once w x (suc n) number a h = go (x == number) refl (once w x n (next_number number) (next_below number) (omega arith))
  where
    go : (t : Bool) → (x == number) ≡ t → hits w x n (next_number number) ≤ w → cond t w 0 + hits w x n (next_number number) ≤ w
    go true e ih =
        let s : x ≡ number = eqb-true x number e in
        let z : hits w x n (next_number number) ≡ 0 = rw (← s) (missed w x n (next_number x) (omega arith) (next_below x) (round x n (omega arith) h)) in
        omega arith
    go false e ih = omega arith

none_there : (w : Heard → ℕ) (id n number : ℕ) → weights w [] id n number ≡ 0
unfolding weights packet_at
none_there w id zero number = refl
none_there w id (suc n) number = omega (arith, none_there w id n (next_number number))

one_more : (w : Heard → ℕ) (p : Heard) (kept : List Heard) (id m : ℕ) → weight_at w (packet_at (p ∷ kept) id m) ≤ cond (p.number == m) (w p) 0 + weight_at w (packet_at kept id m)
unfolding packet_at
one_more w p kept id m = go (p.packet_id == id) (p.number == m)
  where
    go : (a b : Bool) → weight_at w (cond (a && b) (Some p) (packet_at kept id m)) ≤ cond b (w p) 0 + weight_at w (packet_at kept id m)
    go true true = omega arith
    go true false = omega arith
    go false true = omega arith
    go false false = omega arith

all_more : (w : Heard → ℕ) (p : Heard) (kept : List Heard) (id n number : ℕ) → weights w (p ∷ kept) id n number ≤ hits (w p) p.number n number + weights w kept id n number
unfolding weights hits
all_more w p kept id zero number = omega arith
all_more w p kept id (suc n) number = omega (arith, one_more w p kept id number, all_more w p kept id n (next_number number))

-- what packets of distinct numbers count for is at most what all kept packets count for
pub distinct : (w : Heard → ℕ) (kept : List Heard) (id n number : ℕ) → number < 2 ^ 32 → n ≤ 2 ^ 32 → weights w kept id n number ≤ sum_by w kept
distinct w [] id n number a h = omega (arith, none_there w id n number)
distinct w (p ∷ kept) id n number a h = omega (arith, sum_by-cons w p kept, all_more w p kept id n number, once (w p) p.number n number a h, distinct w kept id n number a h)

pub heard_sum : (kept : List Kept) → sum_by (λ h. h.length) (map heard kept) ≡ held kept
unfolding heard
heard_sum [] = refl
heard_sum (p ∷ kept) = omega (arith, sum_by-cons (λ (h : Heard). h.length) (heard p) (map heard kept), sum_by-cons size_of p kept, heard_sum kept)

pub each_once : (kept : List Heard) → sum_by (λ h. 1) kept ≡ length kept
each_once [] = refl
each_once (p ∷ kept) = omega (arith, sum_by-cons (λ (h : Heard). 1) p kept, each_once kept)

-- ---- runs

-- how a rest of a run begins
pub data Begins (link : Payload → Link) (kept : List Heard) (id most number : ℕ) (rest : List (List ℕ)) : Type 0 where
  GoesOn : (bytes : List ℕ) (more : List (List ℕ)) → link_at link (packet_at kept id number) ≡ Link.Inner bytes → rest_of_run link kept id most (next_number number) ≡ Some more → rest ≡ bytes ∷ more → Begins link kept id most number rest
  Stops : (bytes : List ℕ) → link_at link (packet_at kept id number) ≡ Link.End bytes → rest ≡ bytes ∷ [] → Begins link kept id most number rest

pub begins : (link : Payload → Link) (kept : List Heard) (id most number : ℕ) (rest : List (List ℕ)) → rest_of_run link kept id (suc most) number ≡ Some rest → Begins link kept id most number rest
unfolding rest_of_run after_link
begins link kept id most number rest e = go (link_at link (packet_at kept id number)) (rest_of_run link kept id most (next_number number)) refl refl e
  where
    go : (l : Link) (r : Option (List (List ℕ))) → link_at link (packet_at kept id number) ≡ l → rest_of_run link kept id most (next_number number) ≡ r → after_link l r ≡ Some rest → Begins link kept id most number rest
    go (Link.Inner bytes) None l r e = absurd cc
    go (Link.Inner bytes) (Some more) l r e = GoesOn bytes more l r cc
    go (Link.End bytes) r l s e = Stops bytes l cc
    go Link.Break r l s e = absurd cc

pub goes_on : (link : Payload → Link) (kept : List Heard) (id most number : ℕ) (bytes : List ℕ) (more : List (List ℕ)) → link_at link (packet_at kept id number) ≡ Link.Inner bytes → rest_of_run link kept id most (next_number number) ≡ Some more
    → rest_of_run link kept id (suc most) number ≡ Some (bytes ∷ more)
unfolding rest_of_run after_link
goes_on link kept id most number bytes more l r = rw (l, r) refl

pub stops : (link : Payload → Link) (kept : List Heard) (id most number : ℕ) (bytes : List ℕ) → link_at link (packet_at kept id number) ≡ Link.End bytes → rest_of_run link kept id (suc most) number ≡ Some (bytes ∷ [])
unfolding rest_of_run after_link
stops link kept id most number bytes l = rw l refl

pub no_rest : (link : Payload → Link) (kept : List Heard) (id number : ℕ) → rest_of_run link kept id 0 number ≡ None
unfolding rest_of_run
no_rest link kept id number = refl

-- more packets to look at do not change a rest that is found
pub farther : (link : Payload → Link) (kept : List Heard) (id most more number : ℕ) (rest : List (List ℕ)) → most ≤ more → rest_of_run link kept id most number ≡ Some rest → rest_of_run link kept id more number ≡ Some rest
farther link kept id zero more number rest h e = absurd (let n = no_rest link kept id number in cc)
farther link kept id (suc most) zero number rest h e = absurd (omega arith)
farther link kept id (suc most) (suc more) number rest h e = go (begins link kept id most number rest e) (λ r f. farther link kept id most more (next_number number) r (omega arith) f)
  where
    go : Begins link kept id most number rest → ((r : List (List ℕ)) → rest_of_run link kept id most (next_number number) ≡ Some r → rest_of_run link kept id more (next_number number) ≡ Some r) → rest_of_run link kept id (suc more) number ≡ Some rest
    go (GoesOn bytes r l f s) ih = rw s (goes_on link kept id more number bytes r l (ih r f))
    go (Stops bytes l s) ih = rw s (stops link kept id more number bytes l)

-- as many packets as the rest has are enough
pub enough : (link : Payload → Link) (kept : List Heard) (id most number : ℕ) (rest : List (List ℕ)) → rest_of_run link kept id most number ≡ Some rest → rest_of_run link kept id (length rest) number ≡ Some rest
enough link kept id zero number rest e = absurd (let n = no_rest link kept id number in cc)
enough link kept id (suc most) number rest e = go (begins link kept id most number rest e) (λ r f. enough link kept id most (next_number number) r f)
  where
    go : Begins link kept id most number rest → ((r : List (List ℕ)) → rest_of_run link kept id most (next_number number) ≡ Some r → rest_of_run link kept id (length r) (next_number number) ≡ Some r) → rest_of_run link kept id (length rest) number ≡ Some rest
    go (GoesOn bytes r l f s) ih = rw s (goes_on link kept id (length r) number bytes r l (ih r f))
    go (Stops bytes l s) ih = rw s (stops link kept id 0 number bytes l)

-- what a part counts for: so much, and its bytes
abbrev pub link_cost : ℕ → Link → ℕ
link_cost c (Link.Inner bytes) = c + length bytes
link_cost c (Link.End bytes) = c + length bytes
link_cost c Link.Break = 0

-- so much for a part, whatever its bytes
abbrev pub link_count : ℕ → Link → ℕ
link_count c (Link.Inner bytes) = c
link_count c (Link.End bytes) = c
link_count c Link.Break = 0

unfoldable pub parts_cost : ℕ → List (List ℕ) → ℕ
parts_cost c [] = 0
parts_cost c (b ∷ bs) = c + length b + parts_cost c bs

unfoldable pub times : ℕ → ℕ → ℕ
times c zero = 0
times c (suc k) = c + times c k

-- the first packets of a rest of a run count for so much each
pub run_count : (link : Payload → Link) (kept : List Heard) (id c : ℕ) (w : Heard → ℕ) → ((m : ℕ) → link_count c (link_at link (packet_at kept id m)) ≤ weight_at w (packet_at kept id m))
    → (most number k : ℕ) (rest : List (List ℕ)) → rest_of_run link kept id most number ≡ Some rest → k ≤ length rest → times c k ≤ weights w kept id k number
unfolding times weights
run_count link kept id c w within most number zero rest e h = omega arith
run_count link kept id c w within zero number (suc k) rest e h = absurd (let n = no_rest link kept id number in cc)
run_count link kept id c w within (suc most) number (suc k) rest e h = go (begins link kept id most number rest e) (λ r f g. run_count link kept id c w within most (next_number number) k r f g)
  where
    go : Begins link kept id most number rest → ((r : List (List ℕ)) → rest_of_run link kept id most (next_number number) ≡ Some r → k ≤ length r → times c k ≤ weights w kept id k (next_number number)) → c + times c k ≤ weight_at w (packet_at kept id number) + weights w kept id k (next_number number)
    go (GoesOn bytes r l f s) ih =
        let here : c ≤ weight_at w (packet_at kept id number) = rw l at (within number) in
        omega (arith, here, ih r f (omega (arith, h, ap length s)))
    go (Stops bytes l s) ih =
        let here : c ≤ weight_at w (packet_at kept id number) = rw l at (within number) in
        let none : k ≡ 0 = omega (arith, h, ap length s) in
        rw none (omega (arith, here))

-- all packets of a rest of a run count for so much each, and their bytes
pub run_cost : (link : Payload → Link) (kept : List Heard) (id c : ℕ) (w : Heard → ℕ) → ((m : ℕ) → link_cost c (link_at link (packet_at kept id m)) ≤ weight_at w (packet_at kept id m))
    → (most number : ℕ) (rest : List (List ℕ)) → rest_of_run link kept id most number ≡ Some rest → parts_cost c rest ≤ weights w kept id (length rest) number
unfolding parts_cost weights
run_cost link kept id c w within zero number rest e = absurd (let n = no_rest link kept id number in cc)
run_cost link kept id c w within (suc most) number rest e = go (begins link kept id most number rest e) (λ r f. run_cost link kept id c w within most (next_number number) r f)
  where
    go : Begins link kept id most number rest → ((r : List (List ℕ)) → rest_of_run link kept id most (next_number number) ≡ Some r → parts_cost c r ≤ weights w kept id (length r) (next_number number)) → parts_cost c rest ≤ weights w kept id (length rest) number
    go (GoesOn bytes r l f s) ih =
        let here : c + length bytes ≤ weight_at w (packet_at kept id number) = rw l at (within number) in
        rw s (omega (arith, here, ih r f))
    go (Stops bytes l s) ih =
        let here : c + length bytes ≤ weight_at w (packet_at kept id number) = rw l at (within number) in
        rw s (omega (arith, here))

pub times_one : (k : ℕ) → times 1 k ≡ k
unfolding times
times_one zero = refl
times_one (suc k) = omega (arith, times_one k)

-- parts count for at least their bytes
pub cost_bytes : (c : ℕ) (bs : List (List ℕ)) → length (joined bs) ≤ parts_cost c bs
unfolding parts_cost
cost_bytes c [] = omega arith
cost_bytes c (b ∷ bs) = omega (arith, cost_bytes c bs, length-append b (joined bs))

-- what parts count for at two each
pub cost_two : (bs : List (List ℕ)) → parts_cost 2 bs ≡ 2 * length bs + length (joined bs)
unfolding parts_cost
cost_two [] = refl
cost_two (b ∷ bs) = omega (arith, cost_two bs, length-append b (joined bs))

-- ---- runs of the kept packets of a pool

-- what holds of no packet and of each kept one holds of the packet of any number
pub at_each : (P : Option Heard → Type 0) → P None → ((p : Kept) → P (Some (heard p))) → (kept : List Kept) (id number : ℕ) → P (packet_at (map heard kept) id number)
unfolding packet_at
at_each P n s [] id number = n
at_each P n s (p ∷ kept) id number = go (((heard p).packet_id == id) && ((heard p).number == number)) (at_each P n s kept id number)
  where
    go : (b : Bool) → P (packet_at (map heard kept) id number) → P (cond b (Some (heard p)) (packet_at (map heard kept) id number))
    go true ih = s p
    go false ih = ih

-- each part counts for so much beside its bytes, and no more than its payload has
abbrev pub IsWithin : ℕ → (Payload → Link) → Type 0
IsWithin c link = (p : Kept) → link_cost c (link (heard p).payload) ≤ length p.payload

pub heard_length : (p : Kept) → (heard p).length ≡ length p.payload
unfolding heard
heard_length p = refl

pub within_at : (c : ℕ) (link : Payload → Link) → IsWithin c link → (kept : List Kept) (id m : ℕ) → link_cost c (link_at link (packet_at (map heard kept) id m)) ≤ weight_at (λ h. h.length) (packet_at (map heard kept) id m)
unfolding link_at
within_at c link within kept id m = at_each (λ o. link_cost c (link_at link o) ≤ weight_at (λ h. h.length) o) (omega arith) (λ p. omega (arith, within p, heard_length p)) kept id m

count_cost : (c : ℕ) (l : Link) → 1 ≤ c → link_count 1 l ≤ link_cost c l
count_cost c (Link.Inner bytes) h = omega arith
count_cost c (Link.End bytes) h = omega arith
count_cost c Link.Break h = omega arith

counts_at : (c : ℕ) (link : Payload → Link) → 1 ≤ c → IsWithin c link → (kept : List Kept) (id m : ℕ) → link_count 1 (link_at link (packet_at (map heard kept) id m)) ≤ weight_at (λ h. h.length) (packet_at (map heard kept) id m)
counts_at c link one within kept id m = omega (arith, count_cost c (link_at link (packet_at (map heard kept) id m)) one, within_at c link within kept id m)

-- a rest of a run has fewer packets than there are numbers
pub rest_short : (c : ℕ) (link : Payload → Link) → 1 ≤ c → IsWithin c link → (kept : List Kept) (id most number : ℕ) (rest : List (List ℕ)) → number < 2 ^ 32 → held kept < 2 ^ 32 → rest_of_run link (map heard kept) id most number ≡ Some rest → length rest ≤ held kept
rest_short c link one within kept id most number rest a b e = go (cases_lt (length rest) (2 ^ 32))
  where
    counted : (k : ℕ) → k ≤ length rest → k ≤ 2 ^ 32 → k ≤ held kept
    counted k h l = omega (arith, times_one k, run_count link (map heard kept) id 1 (λ h. h.length) (counts_at c link one within kept id) most number k rest e h, distinct (λ h. h.length) (map heard kept) id k number a l, heard_sum kept)

    go : (length rest < 2 ^ 32) ⊎ (2 ^ 32 ≤ length rest) → length rest ≤ held kept
    go (inl h) = counted (length rest) (omega arith) (omega arith)
    go (inr h) = absurd (omega (arith, b, counted (2 ^ 32) h (omega arith)))

-- a packet and the rest of a run after it have together no more bytes than are kept
pub run_fits : (c : ℕ) (link : Payload → Link) → 1 ≤ c → IsWithin c link → (kept : List Kept) (id most number : ℕ) (rest : List (List ℕ)) → number < 2 ^ 32 → held kept < 2 ^ 32 → rest_of_run link (map heard kept) id most (next_number number) ≡ Some rest
    → weight_at (λ h. h.length) (packet_at (map heard kept) id number) + parts_cost c rest ≤ held kept
unfolding weights
run_fits c link one within kept id most number rest a b e =
    let n : length rest ≤ held kept = rest_short c link one within kept id most (next_number number) rest (next_below number) b e in
    omega (arith, run_cost link (map heard kept) id c (λ h. h.length) (within_at c link within kept id) most (next_number number) rest e, distinct (λ h. h.length) (map heard kept) id (suc (length rest)) number a (omega (arith, n, b)), heard_sum kept)

-- nor have the parts of a rest of a run alone
pub rest_fits : (c : ℕ) (link : Payload → Link) → 1 ≤ c → IsWithin c link → (kept : List Kept) (id most number : ℕ) (rest : List (List ℕ)) → number < 2 ^ 32 → held kept < 2 ^ 32 → rest_of_run link (map heard kept) id most number ≡ Some rest → parts_cost c rest ≤ held kept
unfolding next_number
rest_fits c link one within kept id most number rest a b e =
    let before : ℕ = (number + (2 ^ 32 - 1)) % 2 ^ 32 in
    let back : next_number before ≡ number = omega (arith, a) in
    omega (arith, run_fits c link one within kept id most before rest (omega arith) b (rw back e))

count_one : (l : Link) → link_count 1 l ≤ 1
count_one (Link.Inner bytes) = omega arith
count_one (Link.End bytes) = omega arith
count_one Link.Break = omega arith

one_at : (link : Payload → Link) (o : Option Heard) → link_count 1 (link_at link o) ≤ weight_at (λ h. 1) o
unfolding link_at
one_at link None = omega arith
one_at link (Some h) = count_one (link h.payload)

-- a rest of a run has no more packets than are kept
pub rest_kept : (c : ℕ) (link : Payload → Link) → 1 ≤ c → IsWithin c link → (kept : List Kept) (id most number : ℕ) (rest : List (List ℕ)) → number < 2 ^ 32 → held kept < 2 ^ 32 → rest_of_run link (map heard kept) id most number ≡ Some rest → length rest ≤ length (map heard kept)
rest_kept c link one within kept id most number rest a b e =
    let n : length rest ≤ held kept = rest_short c link one within kept id most number rest a b e in
    omega (arith, times_one (length rest), run_count link (map heard kept) id 1 (λ h. 1) (λ m. one_at link (packet_at (map heard kept) id m)) most number (length rest) rest e (omega arith), distinct (λ h. 1) (map heard kept) id (length rest) number a (omega (arith, n, b)), each_once (map heard kept))

-- as many packets to look at as bytes are kept give the same rest of a run as the number of kept packets
pub same_rest : (c : ℕ) (link : Payload → Link) → 1 ≤ c → IsWithin c link → (kept : List Kept) (id number : ℕ) → number < 2 ^ 32 → held kept < 2 ^ 32 → rest_of_run link (map heard kept) id (held kept) number ≡ rest_of_run link (map heard kept) id (length (map heard kept)) number
same_rest c link one within kept id number a b = go (rest_of_run link (map heard kept) id (held kept) number) (rest_of_run link (map heard kept) id (length (map heard kept)) number) refl refl
  where
    to : (rest : List (List ℕ)) → rest_of_run link (map heard kept) id (held kept) number ≡ Some rest → rest_of_run link (map heard kept) id (length (map heard kept)) number ≡ Some rest
    to rest e = farther link (map heard kept) id (length rest) (length (map heard kept)) number rest (rest_kept c link one within kept id (held kept) number rest a b e) (enough link (map heard kept) id (held kept) number rest e)

    from : (rest : List (List ℕ)) → rest_of_run link (map heard kept) id (length (map heard kept)) number ≡ Some rest → rest_of_run link (map heard kept) id (held kept) number ≡ Some rest
    from rest e = farther link (map heard kept) id (length rest) (held kept) number rest (rest_short c link one within kept id (length (map heard kept)) number rest a b e) (enough link (map heard kept) id (length (map heard kept)) number rest e)

    go : (x y : Option (List (List ℕ))) → rest_of_run link (map heard kept) id (held kept) number ≡ x → rest_of_run link (map heard kept) id (length (map heard kept)) number ≡ y → x ≡ y
    go (Some r) y e f = sym (to r e) ∙ f
    go None None e f = refl
    go None (Some r) e f = absurd (let g = from r f in cc)
