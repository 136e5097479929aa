-- A JSON value has at most one node more than its text has bytes.
use Rattle.std.proofs.Common.{◌≡◌, ℕ, zero, suc, ◌+◌, ◌≤◌, Bool, true, false, List, [], ◌∷◌, length, Option, Some, None, option_map, option_and_then, Ordering, Less, Equal, Greater, refl, subst, arith}
use Rattle.std.specs.Prelude.{⊤}
use Rattle.std.specs.Ordering.{match_ordering}
use Rattle.json.specs.Token.{Token}
use Rattle.json.specs.Lex.{Lexeme, token, comma, colon, Class, quote, backslash, operator, space, other, class, Mode, between, in_word, in_string, in_escape, lex_byte, lex, Place, fresh, after_value, after_comma, after_key, begins_colon, may_begin, may_close, if_allowed, place_token, punctuate, tokens}
use Rattle.json.specs.Json as json
use Rattle.json.specs.Json.{Parse, parse_map, after_end_array, read_key, items_step, members_step, items, members, value_with, value}
use Rattle.json.proofs.Grammar.{after_end_array-shorter, read_key-shorter}
use Rattle.serde_json.specs.Data.{Data, number, array, object, item, Members, no_members, member, put}
use Rattle.serde_json.specs.Read.{number_of, of_json, of_items, of_members, max_depth, read}
use Rattle.mmt_plan.specs.Nodes.{nodes, item_nodes, member_nodes}

-- ---- each byte begins one lexeme at most, and each lexeme but an end is one token at most

a_byte : (m : Mode) (c : Class) (x : ℕ) (xs : List ℕ) (n : ℕ) (k : Mode → List Lexeme) → ((next : Mode) → length (k next) ≤ n) → length (lex_byte m c x xs k) ≤ n + 1
a_byte between quote x xs n k h = omega (arith, h in_string)
a_byte between backslash x xs n k h = omega (arith, h in_word)
a_byte between operator x xs n k h = omega (arith, h between)
a_byte between space x xs n k h = omega (arith, h between)
a_byte between other x xs n k h = omega (arith, h in_word)
a_byte in_word quote x xs n k h = omega (arith, h in_word)
a_byte in_word backslash x xs n k h = omega (arith, h in_word)
a_byte in_word operator x xs n k h = omega (arith, h between)
a_byte in_word space x xs n k h = omega (arith, h between)
a_byte in_word other x xs n k h = omega (arith, h in_word)
a_byte in_string quote x xs n k h = omega (arith, h between)
a_byte in_string backslash x xs n k h = omega (arith, h in_escape)
a_byte in_string operator x xs n k h = omega (arith, h in_string)
a_byte in_string space x xs n k h = omega (arith, h in_string)
a_byte in_string other x xs n k h = omega (arith, h in_string)
a_byte in_escape c x xs n k h = omega (arith, h in_string)

lexemes : (m : Mode) (text : List ℕ) → length (lex m text) ≤ length text
unfolding lex
lexemes m [] = omega arith
lexemes m (x ∷ xs) = omega (arith, a_byte m (class x) x xs (length xs) (λ next. lex next xs) (λ next. lexemes next xs))

allowed : (b : Bool) (t : Token) (n : ℕ) (k : Place → List Token) (next : Place) → length (k next) ≤ n + 1 → length (if_allowed b t k next) ≤ n + 2
allowed true t n k next h = omega (arith, h)
allowed false t n k next h = omega arith

a_token : (p : Place) (t : Token) (b : Bool) (n : ℕ) (k : Place → List Token) → ((next : Place) → length (k next) ≤ n + 1) → length (place_token p t b k) ≤ n + 2
a_token p Token.begin_object b n k h = allowed (may_begin p) Token.begin_object n k fresh (h fresh)
a_token p Token.end_object b n k h = allowed (may_close p) Token.end_object n k after_value (h after_value)
a_token p Token.begin_array b n k h = allowed (may_begin p) Token.begin_array n k fresh (h fresh)
a_token p Token.end_array b n k h = allowed (may_close p) Token.end_array n k after_value (h after_value)
a_token p (Token.key s) b n k h = omega arith
a_token p (Token.string s) true n k h = allowed (may_begin p) (Token.key s) n k after_key (h after_key)
a_token p (Token.string s) false n k h = allowed (may_begin p) (Token.string s) n k after_value (h after_value)
a_token p (Token.number s) b n k h = allowed (may_begin p) (Token.number s) n k after_value (h after_value)
a_token p (Token.boolean c) b n k h = allowed (may_begin p) (Token.boolean c) n k after_value (h after_value)
a_token p Token.null b n k h = allowed (may_begin p) Token.null n k after_value (h after_value)
a_token p Token.bad b n k h = omega arith

punctuated : (p : Place) (ls : List Lexeme) → length (punctuate p ls) ≤ length ls + 1
unfolding punctuate
punctuated fresh [] = omega arith
punctuated after_value [] = omega arith
punctuated after_comma [] = omega arith
punctuated after_key [] = omega arith
punctuated fresh (token t ∷ ls) = omega (arith, a_token fresh t (begins_colon ls) (length ls) (λ next. punctuate next ls) (λ next. punctuated next ls))
punctuated after_value (token t ∷ ls) = omega (arith, a_token after_value t (begins_colon ls) (length ls) (λ next. punctuate next ls) (λ next. punctuated next ls))
punctuated after_comma (token t ∷ ls) = omega (arith, a_token after_comma t (begins_colon ls) (length ls) (λ next. punctuate next ls) (λ next. punctuated next ls))
punctuated after_key (token t ∷ ls) = omega (arith, a_token after_key t (begins_colon ls) (length ls) (λ next. punctuate next ls) (λ next. punctuated next ls))
punctuated fresh (comma ∷ ls) = omega arith
punctuated after_value (comma ∷ ls) = omega (arith, punctuated after_comma ls)
punctuated after_comma (comma ∷ ls) = omega arith
punctuated after_key (comma ∷ ls) = omega arith
punctuated fresh (colon ∷ ls) = omega arith
punctuated after_value (colon ∷ ls) = omega arith
punctuated after_comma (colon ∷ ls) = omega arith
punctuated after_key (colon ∷ ls) = omega (arith, punctuated fresh ls)

few_tokens : (text : List ℕ) → length (tokens text) ≤ length text + 1
few_tokens text = omega (arith, punctuated fresh (lex between text), lexemes between text)

-- ---- each node of the grammar's value takes one token or more

abbrev mutual
  size : json.Json → ℕ
  size json.null = 1
  size (json.boolean b) = 1
  size (json.number s) = 1
  size (json.string s) = 1
  size (json.array js) = 1 + item_size js
  size (json.object ms) = 1 + member_size ms

  item_size : json.Items → ℕ
  item_size json.no_items = 0
  item_size (json.item j js) = size j + item_size js

  member_size : json.Members → ℕ
  member_size json.no_members = 0
  member_size (json.member k j ms) = size j + member_size ms

abbrev Spends : {A : Type 0} → (A → ℕ) → ℕ → Option (A × List Token) → Type 0
Spends f n None = ⊤
Spends f n (Some p) = f p.0 + length p.1 ≤ n

abbrev Within : {A : Type 0} → (A → ℕ) → Parse A → Type 0
Within f p = (ts : List Token) → Spends f (length ts) (p ts)

mapped : {A B : Type 0} (f : A → ℕ) (g : B → ℕ) (m n : ℕ) (h : A → B) → ((a : A) (k : ℕ) → f a + k ≤ m → g (h a) + k ≤ n) → (o : Option (A × List Token)) → Spends f m o → Spends g n (parse_map h o)
mapped f g m n h k None x = tt
mapped f g m n h k (Some p) x = k p.0 (length p.1) x

and_more : {B : Type 0} (g : B → ℕ) (n : ℕ) (h : json.Json → B → B) → ((j : json.Json) (b : B) → g (h j b) ≡ size j + g b) → (more : Parse B) → Within g more
    → (o : Option (json.Json × List Token)) → Spends size n o → Spends g n (option_and_then (λ q. parse_map (h q.0) (more q.1)) o)
and_more g n h is more within None x = tt
and_more g n h is more within (Some q) x = mapped g g (length q.1) n (h q.0) (λ b k y. omega (arith, is q.0 b)) _ (within q.1)

less : {B : Type 0} (g : B → ℕ) (m n : ℕ) → m ≤ n → (o : Option (B × List Token)) → Spends g m o → Spends g n o
less g m n le None x = tt
less g m n le (Some q) x = omega arith

module _ (p : Parse json.Json) (within : Within size p) where
  item_turn : (more : Parse json.Items) → Within item_size more → (ts : List Token) (o : Option (List Token)) → after_end_array ts ≡ o → Spends item_size (length ts) (items_step p more ts o)
  item_turn more again ts (Some r) e = omega (arith, after_end_array-shorter ts r e)
  item_turn more again ts None e = and_more item_size (length ts) json.item (λ j b. refl) more again (p ts) (within ts)

  Within-items : (n : ℕ) → Within item_size (items p n)
  unfolding items
  Within-items zero ts = tt
  Within-items (suc n) ts = item_turn (items p n) (Within-items n) ts (after_end_array ts) refl

  member_turn : (more : Parse json.Members) → Within member_size more → (ts : List Token) (o : Option (Option (List ℕ) × List Token)) → read_key ts ≡ o → Spends member_size (length ts) (option_and_then (λ q. members_step p more q.0 q.1) o)
  member_turn more again ts None e = tt
  member_turn more again ts (Some (None, s)) e = omega (arith, read_key-shorter ts None s e)
  member_turn more again ts (Some (Some k, s)) e = less member_size (length s) (length ts) (omega (arith, read_key-shorter ts (Some k) s e)) _ (and_more member_size (length s) (json.member k) (λ j b. refl) more again (p s) (within s))

  Within-members : (n : ℕ) → Within member_size (members p n)
  unfolding members
  Within-members zero ts = tt
  Within-members (suc n) ts = member_turn (members p n) (Within-members n) ts (read_key ts) refl

one_level : (a : Parse json.Items) (o : Parse json.Members) → ((ts : List Token) → Spends size (length ts + 1) (parse_map json.array (a ts))) → ((ts : List Token) → Spends size (length ts + 1) (parse_map json.object (o ts))) → Within size (value_with a o)
one_level a o p q [] = tt
one_level a o p q (Token.begin_object ∷ ts) = less size (length ts + 1) _ (omega arith) _ (q ts)
one_level a o p q (Token.end_object ∷ ts) = tt
one_level a o p q (Token.begin_array ∷ ts) = less size (length ts + 1) _ (omega arith) _ (p ts)
one_level a o p q (Token.end_array ∷ ts) = tt
one_level a o p q (Token.key s ∷ ts) = tt
one_level a o p q (Token.string s ∷ ts) = omega arith
one_level a o p q (Token.number s ∷ ts) = omega arith
one_level a o p q (Token.boolean b ∷ ts) = omega arith
one_level a o p q (Token.null ∷ ts) = omega arith
one_level a o p q (Token.bad ∷ ts) = tt

Within-value : (d : ℕ) → Within size (value d)
unfolding value
Within-value zero = one_level (λ ts. None) (λ ts. None) (λ ts. tt) (λ ts. tt)
Within-value (suc d) =
    one_level (λ ts. items (value d) (length ts) ts) (λ ts. members (value d) (length ts) ts)
    (λ ts. mapped item_size size (length ts) (length ts + 1) json.array (λ js k x. omega arith) _ (Within-items (value d) (Within-value d) (length ts) ts))
    (λ ts. mapped member_size size (length ts) (length ts + 1) json.object (λ ms k x. omega arith) _ (Within-members (value d) (Within-value d) (length ts) ts))

-- ---- a value has a node for each of the grammar's, or fewer where a key comes twice

abbrev AtMost : {A : Type 0} → (A → ℕ) → ℕ → Option A → Type 0
AtMost f n None = ⊤
AtMost f n (Some a) = f a ≤ n

AtMost-map : {A B : Type 0} (f : A → ℕ) (g : B → ℕ) (m n : ℕ) (h : A → B) → ((a : A) → f a ≤ m → g (h a) ≤ n) → (o : Option A) → AtMost f m o → AtMost g n (option_map h o)
AtMost-map f g m n h k None x = tt
AtMost-map f g m n h k (Some a) x = k a x

AtMost-and_then : {A B : Type 0} (f : A → ℕ) (g : B → ℕ) (m n : ℕ) (h : A → Option B) → ((a : A) → f a ≤ m → AtMost g n (h a)) → (o : Option A) → AtMost f m o → AtMost g n (option_and_then h o)
AtMost-and_then f g m n h k None x = tt
AtMost-and_then f g m n h k (Some a) x = k a x

flat : {A : Type 0} (o : Option A) → AtMost (λ _. 0) 0 o
flat None = tt
flat (Some a) = omega arith

one_of : (o : Ordering) (a b c : Members) (n : ℕ) → member_nodes a ≤ n → member_nodes b ≤ n → member_nodes c ≤ n → member_nodes (match_ordering o a b c) ≤ n
one_of Less a b c n p q r = p
one_of Equal a b c n p q r = q
one_of Greater a b c n p q r = r

put_nodes : (k : List ℕ) (d : Data) (ms : Members) → member_nodes (put k d ms) ≤ nodes d + member_nodes ms
put_nodes k d no_members = omega arith
put_nodes k d (member l e ms) =
    one_of _ (member k d (member l e ms)) (member l d ms) (member l e (put k d ms)) (nodes d + (nodes e + member_nodes ms)) (omega arith) (omega arith) (omega (arith, put_nodes k d ms))

mutual
  of_json_nodes : (j : json.Json) → AtMost nodes (size j) (of_json j)
  of_json_nodes json.null = omega arith
  of_json_nodes (json.boolean b) = omega arith
  of_json_nodes (json.number s) = AtMost-map (λ _. 0) nodes 0 1 number (λ a x. omega arith) (number_of s) (flat _)
  of_json_nodes (json.string s) = omega arith
  of_json_nodes (json.array js) = AtMost-map item_nodes nodes (item_size js) (1 + item_size js) array (λ a x. omega arith) _ (of_items_nodes js)
  of_json_nodes (json.object ms) = AtMost-map member_nodes nodes (member_size ms) (1 + member_size ms) object (λ a x. omega arith) _ (of_members_nodes ms no_members (member_size ms) (omega arith))

  of_items_nodes : (js : json.Items) → AtMost item_nodes (item_size js) (of_items js)
  of_items_nodes json.no_items = omega arith
  of_items_nodes (json.item j js) =
      AtMost-and_then nodes item_nodes (size j) (size j + item_size js) _ (λ d x. AtMost-map item_nodes item_nodes (item_size js) (size j + item_size js) (item d) (λ ds y. omega arith) _ (of_items_nodes js)) _ (of_json_nodes j)

  of_members_nodes : (ms : json.Members) (found : Members) (n : ℕ) → member_nodes found + member_size ms ≤ n → AtMost member_nodes n (of_members ms found)
  of_members_nodes json.no_members found n h = omega arith
  of_members_nodes (json.member name j ms) found n h =
      AtMost-and_then nodes member_nodes (size j) n _ (λ d x. of_members_nodes ms (put name d found) n (omega (arith, put_nodes name d found))) _ (of_json_nodes j)

last_within : (o : Option (json.Json × List Token)) (n : ℕ) → Spends size n o → AtMost size n (option_and_then (λ p. json.if_last p.0 p.1) o)
last_within None n h = tt
last_within (Some (j, [])) n h = omega arith
last_within (Some (j, t ∷ r)) n h = tt

more : (f : Data → ℕ) (m n : ℕ) → m ≤ n → (o : Option Data) → AtMost f m o → AtMost f n o
more f m n le None x = tt
more f m n le (Some a) x = omega arith

-- a value that a text is has at most one node more than the text has bytes
pub read_nodes : (text : List ℕ) (d : Data) → read text ≡ Some d → nodes d ≤ length text + 1
read_nodes text d e =
    let spent = less size (length (tokens text)) (length text + 1) (few_tokens text) _ (Within-value max_depth (tokens text)) in
    subst (AtMost nodes (length text + 1)) e
    (AtMost-and_then size nodes (length text + 1) (length text + 1) of_json (λ j x. more nodes (size j) (length text + 1) x _ (of_json_nodes j)) _ (last_within _ (length text + 1) spent))
