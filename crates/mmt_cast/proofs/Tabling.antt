-- Each table copy of a cast stands in the packets of its sending, and its message is the table's.
use Rattle.std.proofs.Common.{◌≡◌, ℕ, ◌+◌, ◌<◌, ◌≤◌, Bool, true, false, ◌==◌, cond, List, [], ◌∷◌, ◌++◌, map, length, get_or, arith, refl, ap, ap₂, sym, ◌∙◌, subst}
use Rattle.std.specs.List.{AllByRecursion}
use Rattle.std.proofs.lemmas.Bool.{and_from, eq-eqb, eqb-true}
use Rattle.mmt_cast.proofs.Copies.{IsCopy, IsTableIn, are-copies, copy_of, differ, own-copy, table-in}
use Rattle.mmt_cast.proofs.Found.{found, numbers-fit}
use Rattle.mmt_cast.proofs.Listing.{each-at, map-map}
use Rattle.mmt_cast.proofs.Numbering.{before}
use Rattle.mmt_frag.proofs.PartsJoined.{joined-parts, parts-enough, parts-some}
use Rattle.mmt_cast.proofs.Placed.{known-place}
use Rattle.mmt_cast.proofs.Reading.{length-mpus}
use Rattle.mmt_cast.proofs.Refusals.{IsShort}
use Rattle.mmt_cast.proofs.SentIn.{table-span}
use Rattle.mmt_cast.proofs.Spanning.{places, spanned}
use Rattle.mmt_cast.specs.Casting.{Span, cast_of, copies_as_sent, place_of_mpu, planned, with_number}
use Rattle.mmt_frag.specs.Cuts.{part_bytes, parts}
use Rattle.mmt_cast.specs.Placing.{all_mpus}
use Rattle.mmt_cast.specs.Right.{IsMessage, IsRight, NamesKnown, contents_of, signal_at}
use Rattle.mmt_cast.specs.Sending.{Sending, carried, id_of, packet_count, packet_of, sendings}
use Rattle.mmt_cast.specs.Tables.{table_length, table_message_length}
use Rattle.mmt_model.specs.Carrying.{Contents, IsPacketAt, IsSentCopy, first_of_places, has_table_part, last_of_places, no_table_copy, numbers, place_of, places_of_copy, table_copy}
use Rattle.mmt_model.specs.Entries.{Entry}
use Rattle.mmt_model.specs.Right.{IsKnown}
use Rattle.mmt_model.specs.Survival.{no_packet}
use Rattle.mmt_model.specs.Units.{joined}
use Rattle.mmt_model.specs.declared.casts.Cast.{Cast}
use Rattle.mmt_model.specs.declared.casts.Sent.{Sent}
use Rattle.mmt_model.specs.declared.casts.TableCopy.{TableCopy}
use Rattle.mmt_model.specs.declared.programmes.Programme.{Programme}
use Rattle.mmt_model.specs.declared.casts.Carries.TheVariants as carries
use Rattle.mmt_model.specs.declared.programmes.Signal.TheVariants as signals

message-some : (programme : Programme) (names : List (ℕ × ℕ)) → 1 ≤ table_message_length programme names
unfolding table_message_length
message-some programme names = omega arith

message-short : (programme : Programme) (names : List (ℕ × ℕ)) → table_length programme names ≤ 65535 → table_message_length programme names ≤ 131072
unfolding table_message_length
message-short programme names l = omega arith

-- a table's packets carry its parts
table-part : (programme : Programme) (s at bytes k : ℕ) → k < parts bytes programme.limit → has_table_part s k (carried programme (Sending.Table s at bytes) k) ≡ true
unfolding has_table_part carried
table-part programme s at bytes k l = go (parts bytes programme.limit) l (parts bytes programme.limit == 1) refl
  where
    go : (n : ℕ) → k < n → (b : Bool) → (n == 1) ≡ b → has_table_part s k (cond b (carries.Table s) (carries.TablePart s k)) ≡ true
    go n below true e = and_from (s == s) (k == 0) (eq-eqb s s refl) (eq-eqb k 0 (omega (arith, eqb-true n 1 e)))
    go n below false e = and_from (s == s) (k == k) (eq-eqb s s refl) (eq-eqb k k refl)

-- the count and the first number of a table copy are those of its sending
pub record IsTableRead (programme : Programme) (s at : ℕ) (names : List (ℕ × ℕ)) (a : List Sending) : Type 0 where
  pub some : 1 ≤ parts (table_message_length programme names) programme.limit
  pub count : (copy_of programme s names).count ≡ parts (table_message_length programme names) programme.limit
  pub number : (copy_of programme s names).first_number ≡ before programme a (Sending.Table s at (table_message_length programme names))
  pub first : (copy_of programme s names).first.0 ≡ first_of_places (cast_of programme).packets (places programme (Sending.Table s at (table_message_length programme names)) (before programme a (Sending.Table s at (table_message_length programme names))))
  pub last : (copy_of programme s names).last.0 ≡ last_of_places (cast_of programme).packets (places programme (Sending.Table s at (table_message_length programme names)) (before programme a (Sending.Table s at (table_message_length programme names))))

pub table-read : (programme : Programme) → IsRight programme → (s at : ℕ) (names : List (ℕ × ℕ)) (a b : List Sending) → sendings programme ≡ a ++ Sending.Table s at (table_message_length programme names) ∷ b → IsTableRead programme s at names a
unfolding packet_count
table-read programme right s at names a b e =
    let x : Sending = Sending.Table s at (table_message_length programme names) in
    let sp = table-span programme s a b x e (eq-eqb s s refl) in
    let z = spanned programme a b x e in
    let some = parts-some (table_message_length programme names) programme.limit (omega (arith, right.limit)) (message-some programme names) in
    record {
      some = some;
      count = ap (λ (w : Span). w.count) sp ∙ z.count;
      number = ap (λ (w : Span). w.first_number) sp ∙ z.first_number some;
      first = ap (λ (w : Span). w.first.0) sp ∙ z.first;
      last = ap (λ (w : Span). w.last.0) sp ∙ z.last;
    }

pub length-copies : (programme : Programme) → (cast_of programme).copies ≡ copies_as_sent programme
unfolding cast_of
length-copies programme = refl

pub known-names : (programme : Programme) (names : List (ℕ × ℕ)) → AllByRecursion (IsKnown programme.assets) names → AllByRecursion (λ m. m < length (cast_of programme).mpus) (map (place_of_mpu (all_mpus programme)) names)
known-names programme [] k = tt
known-names programme (n ∷ ns) k = (omega (arith, known-place programme n k.0, length-mpus programme), known-names programme ns k.1)

-- a message by its parts
pub message-joined : (programme : Programme) (right : IsRight programme) (names : List (ℕ × ℕ)) (message : List ℕ) → length message ≡ table_message_length programme names
    → joined (map (λ k. part_bytes programme.limit k message) (numbers 0 (parts (table_message_length programme names) programme.limit))) ≡ message
message-joined programme right names message l =
    joined-parts programme.limit message (parts (table_message_length programme names) programme.limit) (omega (arith, l, parts-enough (table_message_length programme names) programme.limit (omega (arith, right.limit))))

copy-part : (programme : Programme) (s at : ℕ) (names : List (ℕ × ℕ)) (a b : List Sending) → sendings programme ≡ a ++ Sending.Table s at (table_message_length programme names) ∷ b
    → (k : ℕ) → k < parts (table_message_length programme names) programme.limit
    → (let packets = (cast_of programme).packets in let c = before programme a (Sending.Table s at (table_message_length programme names)) in
    IsPacketAt packets (place_of packets 0 (c + k)) 0 (c + k) × (has_table_part s k (get_or packets (place_of packets 0 (c + k)) no_packet).carries ≡ true))
unfolding with_number packet_of packet_count id_of
copy-part programme s at names a b e k l =
    let x : Sending = Sending.Table s at (table_message_length programme names) in
    let f = found programme a b x k e l in (
      record { of = f.of; has_id = ap (λ (p : Sent). p.packet_id) f.at; has_number = ap (λ (p : Sent). p.number) f.at },
      ap (λ (p : Sent). has_table_part s k p.carries) f.at ∙ table-part programme s at (table_message_length programme names) k l,
    )

-- a copy as a cast has it
pub copy-right : (programme : Programme) (files messages : ℕ → List ℕ) (names_in : List ℕ → List Entry) → IsRight programme
    → ((s : ℕ) → s < length programme.signals → IsMessage programme names_in (signal_at programme s) (messages s))
    → ((s : ℕ) → s < length programme.signals → IsShort programme (signal_at programme s))
    → length (planned programme) ≤ 16777216 → (c : ℕ) → c < length (cast_of programme).copies
    → IsSentCopy (cast_of programme) (contents_of programme files messages) names_in c
unfolding cast_of contents_of places_of_copy table_copy packet_count id_of
copy-right programme files messages names_in right spelled short few c l =
    let cast : Cast = cast_of programme in
    let contents : Contents = contents_of programme files messages in
    let y : TableCopy = table_copy cast c in
    let is : IsCopy programme y = each-at (IsCopy programme) (copies_as_sent programme) c no_table_copy (are-copies programme) l in
    let s : ℕ = y.signal in
    let names : List (ℕ × ℕ) = is.names in
    let message : List ℕ = messages s in
    let z : TableCopy = copy_of programme s names in
    let t : IsTableIn programme s is.at.0 names = table-in programme s is.at names is.of is.table in
    let x : Sending = Sending.Table s is.at.0 (table_message_length programme names) in
    let n : ℕ = parts (table_message_length programme names) programme.limit in
    let from : ℕ = before programme t.front x in
    let r = table-read programme right s is.at.0 names t.front t.back t.is in
    let m : IsMessage programme names_in (signals.Table is.at names) message = subst (λ signal. IsMessage programme names_in signal message) is.table (spelled s is.of) in
    let known : NamesKnown programme (signals.Table is.at names) = subst (NamesKnown programme) is.table (right.known s is.of) in
    let count : y.count ≡ n = ap (λ (w : TableCopy). w.count) is.is ∙ r.count in
    let number : y.first_number ≡ from = ap (λ (w : TableCopy). w.first_number) is.is ∙ r.number in
    let named : y.names ≡ map (place_of_mpu (all_mpus programme)) names = ap (λ (w : TableCopy). w.names) is.is in
    let whole : joined (map (contents.message_part s) (numbers 0 y.count)) ≡ message = ap (λ k. joined (map (contents.message_part s) (numbers 0 k))) count ∙ message-joined programme right names message m.0 in
    let members : places_of_copy cast.packets y ≡ places programme x from = ap₂ (λ f k. map (place_of cast.packets 0) (numbers f k)) number count in
    record {
      own = own-copy (copies_as_sent programme) c (differ programme) l;
      some = omega (arith, count, r.some);
      low = omega (arith, count, number, numbers-fit programme t.front t.back x t.is, few);
      each = λ k below.
          subst (λ f. IsPacketAt cast.packets (place_of cast.packets 0 (f + k)) 0 (f + k) × (has_table_part s k (get_or cast.packets (place_of cast.packets 0 (f + k)) no_packet).carries ≡ true)) (sym number)
          (copy-part programme s is.at.0 names t.front t.back t.is k (omega (arith, below, count)));
      short = omega (arith, ap length whole, m.0, message-short programme names (subst (IsShort programme) is.table (short s is.of)));
      names = ap (map contents.entry) named ∙ (map-map contents.entry (place_of_mpu (all_mpus programme)) names ∙ (sym m.1 ∙ ap names_in (sym whole)));
      known = subst (AllByRecursion (λ i. i < length cast.mpus)) (sym named) (known-names programme names known);
      first = ap (λ (w : TableCopy). w.first.0) is.is ∙ (r.first ∙ ap (first_of_places cast.packets) (sym members));
      last = ap (λ (w : TableCopy). w.last.0) is.is ∙ (r.last ∙ ap (last_of_places cast.packets) (sym members));
    }
