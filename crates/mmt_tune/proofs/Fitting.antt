-- The first buffer message that fits, message by message.
use Rattle.std.proofs.Common.{◌≡◌, ℕ, List, ◌∷◌, Some, None, refl}
use Rattle.mmt_model.specs.declared.programmes.Params.{Params}
use Rattle.mmt_sig.specs.MessageReading.{message_of}
use Rattle.mmt_tune.specs.Tuning.{fitting, first_fitting}

pub passed_by : (bound : ℕ) (m : List ℕ) (ms : List (List ℕ)) → fitting bound (message_of m) ≡ None → first_fitting bound (m ∷ ms) ≡ first_fitting bound ms
unfolding first_fitting
passed_by bound m ms none = rw none refl

pub found : (bound : ℕ) (m : List ℕ) (ms : List (List ℕ)) (values : Params) → fitting bound (message_of m) ≡ Some values → first_fitting bound (m ∷ ms) ≡ Some values
unfolding first_fitting
found bound m ms values some = rw some refl
