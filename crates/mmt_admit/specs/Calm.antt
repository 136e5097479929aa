-- Stretches of ticks in which few MPUs are live (this project's rule).
use Rattle.std.specs.Prelude.{ℕ, ◌≤◌, ◌&&◌, nat_lt, List}
use Rattle.std.specs.List.{count_by}
use Rattle.mmt_admit.specs.declared.live.Calm.{Calm}
use Rattle.mmt_model.specs.Admission.{is_named_by, live_at}
use Rattle.mmt_model.specs.declared.casts.SentMpu.{SentMpu}

-- how many MPUs are named at the later of two ticks or before it and have a last due tick after the earlier one
unfoldable pub live_between : List SentMpu → ℕ → ℕ → ℕ
live_between mpus low high = count_by (λ m. is_named_by high m.named_from && nat_lt low m.last.0) mpus

-- at no tick of a stretch more than 1,024 MPUs are live
pub record IsCalm (mpus : List SentMpu) (calm : Calm) : Type 0 where
  pub few : (tick : ℕ) → calm.low ≤ tick → tick ≤ calm.high → live_at mpus tick ≤ 1024
