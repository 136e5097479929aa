-- What a pool's answer says in the words of the definition of keeping.
use Rattle.std.proofs.Common.{◌≡◌, ℕ, max, true, List, map, refl, ap, ◌∙◌}
use Rattle.std.specs.Prelude.{Result, Ok, Err}
use Rattle.mmt_model.specs.declared.programmes.Params.{Params}
use Rattle.mmt_model.specs.Keeping.{Outcome, outcome, kept_after}
use Rattle.mmt_packet.specs.declared.packet.Kind.{Kind}
use Rattle.mmt_packet.specs.declared.packet.Kind.TheVariants as kinds
use Rattle.mmt_pool.specs.declared.types.Span.{Span}
use Rattle.mmt_pool.specs.declared.types.NotStored.{NotStored}
use Rattle.mmt_pool.specs.declared.types.NotStored.TheVariants as why
use Rattle.mmt_pool.specs.Doing.{Stores}
use Rattle.mmt_pool.specs.Holding.{Kept, Holding, held, is_kept_kind}
use Rattle.mmt_pool.specs.Outcome.{Follows, Shows}
use Rattle.mmt_runs.specs.Reading.{heard, is_opened}
use Rattle.mmt_recv.specs.Keeping.{KeptAs, Keeps}

pub shows : Shows heard
unfolding heard
shows = record { time = λ p. refl; packet_id = λ p. refl; number = λ p. refl; length = λ p. refl }

kind_kept : (id : ℕ) (kind : Kind) (bytes : List ℕ) → is_opened id kind bytes ≡ true → is_kept_kind kind ≡ true
kind_kept id kinds.Mpu bytes opened = refl
kind_kept id kinds.Generic bytes opened = opened
kind_kept id kinds.Signalling bytes opened = refl

pub opened_kind : (p : Kept) → (heard p).is_opened ≡ true → is_kept_kind p.kind ≡ true
unfolding heard
opened_kind p opened = kind_kept p.packet_id p.kind p.payload opened

kept_as : (r : Params) (clock : ℕ) (old : Holding) (p : Kept) (f : Outcome) (new : Holding)
    → (outcome r clock (map heard old.kept) (heard p) ≡ f) → (map heard new.kept ≡ kept_after (outcome r clock (map heard old.kept) (heard p)) (map heard old.kept) (heard p))
    → new.bound ≡ old.bound → new.peak ≡ max old.peak (held new.kept) → KeptAs r clock old p f new
kept_as r clock old p f new is kept bound peak = record { is = is; kept = kept ∙ ap (λ g. kept_after g (map heard old.kept) (heard p)) is; bound = bound; peak = peak }

pub keeps_of : (delay clock : ℕ) (old : Holding) (p : Kept) (result : Result Span NotStored) (new : Holding)
    → Stores old clock delay p result new → Follows old clock delay p result new → (heard p).is_opened ≡ true → new.peak ≡ max old.peak (held new.kept) → Keeps delay clock old p result new
keeps_of delay clock old p (Ok span) new stores follows opened peak =
    (stores.1, λ window. let a = follows heard shows opened window in kept_as _ clock old p Outcome.Stored new a.0 a.1 (ap (λ h. h.bound) stores.2) peak)
keeps_of delay clock old p (Err (why.Late now)) new stores follows opened peak =
    (stores.1, λ window. let a = follows heard shows opened window in kept_as _ clock old p Outcome.Late new a.0 a.1 (ap (λ h. h.bound) stores.2) peak)
keeps_of delay clock old p (Err why.Repeat) new stores follows opened peak =
    λ window. let a = follows heard shows opened window in kept_as _ clock old p Outcome.Repeat new a.0 a.1 (ap (λ h. h.bound) stores.1) peak
keeps_of delay clock old p (Err (why.Full sum size)) new stores follows opened peak =
    (stores.1, stores.2, λ window. let a = follows heard shows opened window in kept_as _ clock old p Outcome.Full new a.0 a.1 (ap (λ h. h.bound) stores.3) peak)
keeps_of delay clock old p (Err why.OutOfMemory) new stores follows opened peak = tt
