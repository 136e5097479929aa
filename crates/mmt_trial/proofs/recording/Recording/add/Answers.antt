use Rattle.std.proofs.Common.{◌≡◌, ℕ, List, ◌∷◌, ◌++◌, [], length, map, rules, ap, ◌∙◌}
use Rattle.mmt_trial.proofs.Recorded.{pieces-before, pieces-more}
use Rattle.mmt_trial.specs.Pieces.{piece_in}
use Rattle.mmt_trial.specs.declared.recording.Span.{Span}
use Rattle.mmt_trial.proofs.recording.Recording.add.Goals as goal

pub returns-clause-added : goal.returns-clause-added
returns-clause-added c =
    let from : c.len-from.result ≡ length c.self.inside.bytes.items = search rules in
    let to : c.len-to.result ≡ length c.extend_from_slice.new.self.items = search rules in
    pieces-more c.self.inside.bytes.items c.args.piece.now c.extend_from_slice.new.self.items c.self.inside.spans.items c.push.new.self.items c.len-from.result c.len-to.result c.self.invariant c.in-Ok.ensures.items from to c.in-Ok-push.ensures.items
    ∙ ap (λ (v : List (List ℕ)). v ++ c.args.piece.now ∷ []) c.self.view_is

pub returns-in-Err-push-clause-refused : goal.returns-in-Err-push-clause-refused
returns-in-Err-push-clause-refused c =
    ap (λ (spans : List Span). map (piece_in c.extend_from_slice.new.self.items) spans) c.in-Err-push.ensures.items
    ∙ (ap (λ (b : List ℕ). map (piece_in b) c.self.inside.spans.items) c.in-Ok.ensures.items
    ∙ (pieces-before c.self.inside.bytes.items c.args.piece.now c.self.inside.spans.items c.self.invariant ∙ c.self.view_is))
