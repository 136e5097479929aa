use Rattle.std.proofs.Common.{◌≡◌, ◌∙◌, ℕ, List, ◌++◌, codes, decimal, length, ap, append_assoc}
use Rattle.mmt_model.specs.Parts.{part_number}
use Rattle.mmt_sig.specs.View.{view}
use Rattle.mmt_list.specs.Signalling.{sig_text}
use Rattle.mmt_list.proofs.signalling.put_sig.Goals as goal

-- two texts, the second appended to what the first left
two : (o p q a b c d : List ℕ) → p ≡ o ++ (a ++ b) → q ≡ p ++ (c ++ d) → q ≡ o ++ (a ++ b ++ c ++ d)
two o p q a b c d h1 h2 = rw (h2, h1) (simp append_assoc)

pub returns-clause-items : goal.returns-clause-items
unfolding sig_text
returns-clause-items c =
    let number = c.indicator.ensures ∙ ap (λ (h : Rattle.mmt_sig.specs.declared.head.SigHead.SigHead). part_number h.part) c.head-head.ensures in
    two c.args.out.now.items c.put_number.new.out.items c.put_number-2.new.out.items (codes " | sig part ") (decimal (part_number (view c.args.payload.now).head.part)) (codes " messages ") (decimal (length (view c.args.payload.now).messages))
    (rw number at c.put_number.ensures.items) (rw c.count.ensures at c.put_number-2.ensures.items)
