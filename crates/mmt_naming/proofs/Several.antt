-- What tables and messages say, one by one.
use Rattle.std.proofs.Common.{◌≡◌, ◌≢◌, ℕ, ◌+◌, ◌*◌, true, false, List, [], ◌∷◌, ◌++◌, length, refl, eq-eqb}
use Rattle.std.specs.Prelude.{Ok, Err}
use Rattle.std.proofs.lemmas.Bool.{ne_eqb}
use Rattle.mmt_model.specs.declared.programmes.Params.{Params}
use Rattle.mmt_base.specs.declared.refused.Refused.{Refused}
use Rattle.mmt_sig.specs.declared.message.MessageWhy.{MessageWhy}
use Rattle.mmt_sig.specs.Tables.{ListedTable}
use Rattle.mmt_sig.specs.Message.{PaValue, HrbmValue, PaMessage, HrbmMessage, OtherMessage}
use Rattle.mmt_sig.specs.MessageReading.{message_of}
use Rattle.mmt_output.specs.declared.notes.Note.TheVariants as notes
use Rattle.mmt_mpt.specs.Table.{mpt_id}
use Rattle.mmt_mpt.specs.TableReading.{mpt_of}
use Rattle.mmt_naming.specs.Findings.{Remark, are_same, findings_of_mpt, findings_of_table, findings_of_tables, findings_in, findings_from}

-- a table that is no MPT says nothing
pub other_table : (timescale message at : ℕ) (t : ListedTable) → t.id ≢ mpt_id → findings_of_table timescale message at t ≡ []
other_table timescale message at t other = rw (ne_eqb t.id mpt_id other) refl

-- and an MPT its names
pub mpt_table : (timescale message at : ℕ) (t : ListedTable) → t.id ≡ mpt_id → findings_of_table timescale message at t ≡ findings_of_mpt timescale message at (mpt_of t.bytes)
mpt_table timescale message at t is = rw (eq-eqb t.id mpt_id is) refl

-- a table, and then those after it
pub tables_more : (timescale message at next : ℕ) (t : ListedTable) (ts : List ListedTable) → next ≡ at + length t.bytes → findings_of_tables timescale message at (t ∷ ts) ≡ findings_of_table timescale message at t ++ findings_of_tables timescale message next ts
unfolding findings_of_tables
tables_more timescale message at next t ts is = rw is refl

pub tables_none : (timescale message at : ℕ) → findings_of_tables timescale message at [] ≡ []
unfolding findings_of_tables
tables_none timescale message at = refl

-- a message, and then those after it
pub messages_more : (timescale : ℕ) (tuned : Params) (number : ℕ) (m : List ℕ) (ms : List (List ℕ)) → findings_from timescale tuned number (m ∷ ms) ≡ findings_in timescale tuned number m ++ findings_from timescale tuned (number + 1) ms
unfolding findings_from
messages_more timescale tuned number m ms = refl

pub messages_none : (timescale : ℕ) (tuned : Params) (number : ℕ) → findings_from timescale tuned number [] ≡ []
unfolding findings_from
messages_none timescale tuned number = refl

-- ---- one message, by what it is

pub in_pa : (timescale : ℕ) (tuned : Params) (message : ℕ) (bytes : List ℕ) (p : PaValue) (count : ℕ) (ts : List ListedTable) → message_of bytes ≡ Ok (PaMessage p) → count ≡ length p.tables → ts ≡ p.tables
    → findings_of_tables timescale message (8 + 4 * count) ts ≡ findings_in timescale tuned message bytes
unfolding findings_in
in_pa timescale tuned message bytes p count ts is counted left = rw (is, counted, left) refl

pub in_same : (timescale : ℕ) (tuned : Params) (message : ℕ) (bytes : List ℕ) (h : HrbmValue) → message_of bytes ≡ Ok (HrbmMessage h) → are_same h.params tuned ≡ true → findings_in timescale tuned message bytes ≡ []
unfolding findings_in
in_same timescale tuned message bytes h is same = rw (is, same) refl

pub in_differs : (timescale : ℕ) (tuned : Params) (message : ℕ) (bytes : List ℕ) (h : HrbmValue) → message_of bytes ≡ Ok (HrbmMessage h) → are_same h.params tuned ≡ false → findings_in timescale tuned message bytes ≡ Remark (notes.HrbmDiffers message) ∷ []
unfolding findings_in
in_differs timescale tuned message bytes h is differs = rw (is, differs) refl

pub in_other : (timescale : ℕ) (tuned : Params) (message : ℕ) (bytes : List ℕ) (id : ℕ) (rest : List ℕ) → message_of bytes ≡ Ok (OtherMessage id rest) → findings_in timescale tuned message bytes ≡ []
unfolding findings_in
in_other timescale tuned message bytes id rest is = rw is refl

pub in_refused : (timescale : ℕ) (tuned : Params) (message : ℕ) (bytes : List ℕ) (e : Refused MessageWhy) → message_of bytes ≡ Err e → findings_in timescale tuned message bytes ≡ Remark (notes.Message message e.at e.why) ∷ []
unfolding findings_in
in_refused timescale tuned message bytes e is = rw is refl
