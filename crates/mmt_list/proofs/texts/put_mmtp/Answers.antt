use Rattle.std.proofs.Common.{◌≡◌, ◌∙◌, ℕ, List, ◌++◌, append_assoc}
use Rattle.mmt_list.specs.Text.{mmtp_text}
use Rattle.mmt_list.proofs.texts.put_mmtp.Goals as goal

-- six texts, each appended to what the one before it left
six : (o p q r s t u a b c d e f : List ℕ) → p ≡ o ++ a → q ≡ p ++ b → r ≡ q ++ c → s ≡ r ++ d → t ≡ s ++ e → u ≡ t ++ f → u ≡ o ++ (a ++ (b ++ (c ++ (d ++ (e ++ f)))))
six o p q r s t u a b c d e f h1 h2 h3 h4 h5 h6 = rw (h6, h5, h4, h3, h2, h1) (simp append_assoc)

pub returns-clause-items : goal.returns-clause-items
unfolding mmtp_text
returns-clause-items c =
    six c.args.out.now.items c.put_number.new.out.items c.put_number-2.new.out.items c.put_number-3.new.out.items c.put_number-4.new.out.items c.put_number-5.new.out.items c.put_number-6.new.out.items _ _ _ _ _ _
    c.put_number.ensures.items (rw c.type_of.ensures at c.put_number-2.ensures.items) c.put_number-3.ensures.items c.put_number-4.ensures.items (rw c.from.ensures at c.put_number-5.ensures.items) c.put_number-6.ensures.items
    ∙ simp append_assoc
