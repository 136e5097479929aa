-- What a line still lacks of its sections.
use Rattle.std.specs.Prelude.{ℕ, List, []}
use Rattle.mmt_mpu.specs.View.{view as mpu_view}
use Rattle.mmt_sig.specs.View.{view as sig_view}
use Rattle.mmt_list.specs.declared.left.Left.{Left}
use Rattle.mmt_list.specs.declared.left.Left.TheVariants as lefts
use Rattle.mmt_list.specs.Text.{units_text}
use Rattle.mmt_list.specs.Signalling.{messages_text}

-- the units or the messages of a payload that are still to be written, where there are any (this project's own)
abbrev pub left_text : Left → List ℕ
left_text lefts.Nothing = []
left_text (lefts.Units payload) = units_text (mpu_view payload).units
left_text (lefts.Messages payload) = messages_text (sig_view payload)
