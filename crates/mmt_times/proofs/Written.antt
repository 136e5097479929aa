-- Writing the items of a list one after the other.
use Rattle.std.proofs.Common.{◌≡◌, ℕ, ◌+◌, ◌<◌, List, ◌++◌, length, get_or, take, map, sym, ap, subst, ◌∙◌}
use Rattle.std.specs.List.{flat_map, All}
use Rattle.std.proofs.lemmas.List.{flat_map_more, map_more}
use Rattle.std.proofs.lemmas.List.Elements.{All-push}

pub written_more : {A X : Type 0} (f : X → List ℕ) (g : A → X) (xs : List A) (i : ℕ) (d : A) (old out new : List ℕ) → i < length xs → out ≡ old ++ flat_map f (map g (take i xs)) → new ≡ out ++ f (g (get_or xs i d))
    → new ≡ old ++ flat_map f (map g (take (i + 1) xs))
written_more {A} {X} f g xs i d old out new lt so_far more =
    more ∙ ap (λ (l : List ℕ). l ++ f (g (get_or xs i d))) so_far ∙ flat_map_more f old (map g (take i xs)) (g (get_or xs i d))
    ∙ ap (λ (l : List X). old ++ flat_map f l) (sym (map_more g xs i d lt))

pub fit_more : {A X : Type 0} (P : X → Type 0) (g : A → X) (xs : List A) (i : ℕ) (d : A) → i < length xs → All P (map g (take i xs)) → P (g (get_or xs i d)) → All P (map g (take (i + 1) xs))
fit_more P g xs i d lt so_far here = subst (All P) (sym (map_more g xs i d lt)) (All-push P (map g (take i xs)) (g (get_or xs i d)) so_far here)
