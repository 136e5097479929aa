-- One packet more: what tunes.
use Rattle.std.proofs.Common.{◌≡◌, List, [], ◌∷◌, Option, Some, None, refl}
use Rattle.mmt_model.specs.declared.programmes.Params.{Params}
use Rattle.mmt_tune.specs.declared.config.Config.{Config}
use Rattle.mmt_tune.specs.Tuning.{HeardAt, heard_as, history, tuned, values_by}

-- without a packet that tunes there is no session
pub no_session : (config : Config) (hs : List HeardAt) → tuned config hs ≡ None → history config hs ≡ []
unfolding history
no_session config [] none = refl
no_session config (h ∷ older) none = rw none refl

-- a packet more behind one that tuned
pub tuned_before : (config : Config) (h : HeardAt) (older : List HeardAt) (values : Params) → tuned config older ≡ Some values → tuned config (h ∷ older) ≡ Some values
unfolding tuned
tuned_before config h older values some = rw some refl

pub session_grows : (config : Config) (h : HeardAt) (older : List HeardAt) (values : Params) → tuned config (h ∷ older) ≡ Some values → history config (h ∷ older) ≡ heard_as h.packet ∷ history config older
unfolding history
session_grows config h older values some = rw some refl

-- a packet more behind none that tuned
pub tuned_now : (config : Config) (h : HeardAt) (older : List HeardAt) (answer : Option Params) → tuned config older ≡ None → values_by config.assumed config.bound h.packet ≡ answer → tuned config (h ∷ older) ≡ answer
unfolding tuned
tuned_now config h older answer none is = rw none is
