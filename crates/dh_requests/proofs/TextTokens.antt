-- The tokens of a list of texts, and the value that they are read as.
use Rattle.std.proofs.Common.{◌≡◌, ◌≢◌, ℕ, zero, suc, ◌<◌, List, [], ◌∷◌, ◌++◌, Option, Some, None, map, length, refl, sym, ap, subst, ◌∙◌, arith}
use Rattle.std.specs.Prelude.{option_map, option_and_then}
use Rattle.json.specs.Token.{Token}
use Rattle.json.specs.Lex.{tokens}
use Rattle.json.specs.Json.{Json, Parse, parse_map, after_end_array, items, items_step, members, value, value_with, if_last}
use Rattle.json.specs.Json as json
use Rattle.serde_json.specs.Data.{Data, Num}
use Rattle.serde_json.specs.Data as made
use Rattle.serde_json.specs.Read.{of_json, of_items, of_members, read}
use Rattle.serde_json.specs.View.{items_of}
use Rattle.dh_requests.specs.Texts.{list_of}

-- the texts, the bracket that closes their list, and what follows
abbrev pub closing : List (List ℕ) → List Token → List Token
closing [] rest = Token.end_array ∷ rest
closing (t ∷ texts) rest = Token.string t ∷ closing texts rest

-- ---- from the tokens to the value

abbrev of_texts : List (List ℕ) → json.Items
of_texts [] = json.no_items
of_texts (t ∷ texts) = json.item (json.string t) (of_texts texts)

texts_are : (texts : List (List ℕ)) → of_items (of_texts texts) ≡ Some (items_of (map made.string texts))
texts_are [] = refl
texts_are (t ∷ texts) = ap (option_map (made.item (made.string t))) (texts_are texts)

value_string : (d : ℕ) (t : List ℕ) (ts : List Token) → value d (Token.string t ∷ ts) ≡ Some (json.string t, ts)
unfolding value
value_string zero t ts = refl
value_string (suc d) t ts = refl

items_read : (d n : ℕ) (texts : List (List ℕ)) → length texts < n → items (value d) n (closing texts []) ≡ Some (of_texts texts, [])
unfolding items
items_read d zero texts h = absurd (omega arith)
items_read d (suc n) [] h = refl
items_read d (suc n) (t ∷ texts) h =
    ap (option_and_then (λ p. parse_map (json.item p.0) (items (value d) n p.1))) (value_string d t (closing texts []))
    ∙ ap (parse_map (json.item (json.string t))) (items_read d n texts (omega arith))

longer : (texts : List (List ℕ)) → length texts < length (closing texts [])
longer [] = omega arith
longer (t ∷ texts) = let h = longer texts in omega (arith, h)

pub texts_read : (body : List ℕ) (texts : List (List ℕ)) → tokens body ≡ Token.begin_array ∷ closing texts [] → read body ≡ Some (list_of texts)
unfolding value
texts_read body texts e =
    ap (λ ts. option_and_then of_json (option_and_then (λ p. if_last p.0 p.1) (value 127 ts))) e
    ∙ (ap (λ r. option_and_then of_json (option_and_then (λ p. if_last p.0 p.1) (parse_map json.array r)))
    (items_read 126 (length (closing texts [])) texts (longer texts))
    ∙ ap (option_map made.array) (texts_are texts))

-- ---- from the value to the tokens

some_same : {A : Type 0} (x y : A) → Some x ≡ Some y → x ≡ y
some_same x y e = cc

both_of : {A B : Type 0} (a c : A) (b d : B) → ◌≡◌ {A = Option (A × B)} (Some (a, b)) (Some (c, d)) → (a ≡ c) × (b ≡ d)
both_of {A} {B} a c b d e =
    let x : A × B = (a, b) in
    let y : A × B = (c, d) in
    let p : x ≡ y = some_same x y e in
    (ap (λ (z : A × B). z.0) p, ap (λ (z : A × B). z.1) p)

last_is : (r : Option (Json × List Token)) (x : Data) → option_and_then of_json (option_and_then (λ p. if_last p.0 p.1) r) ≡ Some x
    → (j : Json) × (r ≡ Some (j, [])) × (of_json j ≡ Some x)
last_is None x e = absurd (cc)
last_is (Some (j, [])) x e = (j, refl, e)
last_is (Some (j, t ∷ ts)) x e = absurd (cc)

array_of : (o : Option made.Items) (is : made.Items) → option_map made.array o ≡ Some (made.array is) → o ≡ Some is
array_of None is e = absurd (cc)
array_of (Some js) is e = cc

no_number : (o : Option Num) (is : made.Items) → option_map made.number o ≡ Some (made.array is) → ⊥
no_number None is e = cc
no_number (Some n) is e = cc

no_object : (o : Option made.Members) (is : made.Items) → option_map made.object o ≡ Some (made.array is) → ⊥
no_object None is e = cc
no_object (Some n) is e = cc

array_is : (j : Json) (is : made.Items) → of_json j ≡ Some (made.array is) → (js : json.Items) × (j ≡ json.array js) × (of_items js ≡ Some is)
array_is json.null is e = absurd (cc)
array_is (json.boolean b) is e = absurd (cc)
array_is (json.number s) is e = absurd (no_number _ is e)
array_is (json.string s) is e = absurd (cc)
array_is (json.array js) is e = (js, refl, array_of (of_items js) is e)
array_is (json.object ms) is e = absurd (no_object (of_members ms made.no_members) is e)

string_number : (o : Option Num) (s : List ℕ) → option_map made.number o ≡ Some (made.string s) → ⊥
string_number None s e = cc
string_number (Some n) s e = cc

string_array : (o : Option made.Items) (s : List ℕ) → option_map made.array o ≡ Some (made.string s) → ⊥
string_array None s e = cc
string_array (Some n) s e = cc

string_object : (o : Option made.Members) (s : List ℕ) → option_map made.object o ≡ Some (made.string s) → ⊥
string_object None s e = cc
string_object (Some n) s e = cc

string_is : (j : Json) (s : List ℕ) → of_json j ≡ Some (made.string s) → j ≡ json.string s
string_is json.null s e = absurd (cc)
string_is (json.boolean b) s e = absurd (cc)
string_is (json.number x) s e = absurd (string_number _ s e)
string_is (json.string x) s e = cc
string_is (json.array js) s e = absurd (string_array (of_items js) s e)
string_is (json.object ms) s e = absurd (string_object (of_members ms made.no_members) s e)

array_from : (r : Option (json.Items × List Token)) (js : json.Items) (rest : List Token) → parse_map json.array r ≡ Some (json.array js, rest)
    → r ≡ Some (js, rest)
array_from None js rest e = absurd (cc)
array_from (Some (is, ts)) js rest e =
    let p = both_of (json.array is) (json.array js) ts rest e in
    let x = p.0 in
    let y = p.1 in
    let z : is ≡ js = cc in
    ap (λ i. Some (i, ts)) z ∙ ap (λ r. Some (js, r)) y

object_from : (r : Option (json.Members × List Token)) (js : json.Items) (rest : List Token) → parse_map json.object r ≡ Some (json.array js, rest) → ⊥
object_from None js rest e = cc
object_from (Some (is, ts)) js rest e = let p = (both_of (json.object is) (json.array js) ts rest e).0 in cc

array_at : (d : ℕ) (ts : List Token) (js : json.Items) (rest : List Token) → value (suc d) ts ≡ Some (json.array js, rest)
    → (more : List Token) × (ts ≡ Token.begin_array ∷ more) × (items (value d) (length more) more ≡ Some (js, rest))
unfolding value
array_at d [] js rest e = absurd (cc)
array_at d (Token.begin_object ∷ ts) js rest e = absurd (object_from (members (value d) (length ts) ts) js rest e)
array_at d (Token.end_object ∷ ts) js rest e = absurd (cc)
array_at d (Token.begin_array ∷ ts) js rest e = (ts, refl, array_from (items (value d) (length ts) ts) js rest e)
array_at d (Token.end_array ∷ ts) js rest e = absurd (cc)
array_at d (Token.key s ∷ ts) js rest e = absurd (cc)
array_at d (Token.string s ∷ ts) js rest e = let p = (both_of (json.string s) (json.array js) ts rest e).0 in absurd (cc)
array_at d (Token.number s ∷ ts) js rest e = let p = (both_of (json.number s) (json.array js) ts rest e).0 in absurd (cc)
array_at d (Token.boolean b ∷ ts) js rest e = let p = (both_of (json.boolean b) (json.array js) ts rest e).0 in absurd (cc)
array_at d (Token.null ∷ ts) js rest e = let p = (both_of json.null (json.array js) ts rest e).0 in absurd (cc)
array_at d (Token.bad ∷ ts) js rest e = absurd (cc)

no_array_from : (r : Option (json.Items × List Token)) (s : List ℕ) (rest : List Token) → parse_map json.array r ≡ Some (json.string s, rest) → ⊥
no_array_from None s rest e = cc
no_array_from (Some (is, ts)) s rest e = let p = (both_of (json.array is) (json.string s) ts rest e).0 in cc

no_object_from : (r : Option (json.Members × List Token)) (s : List ℕ) (rest : List Token) → parse_map json.object r ≡ Some (json.string s, rest) → ⊥
no_object_from None s rest e = cc
no_object_from (Some (is, ts)) s rest e = let p = (both_of (json.object is) (json.string s) ts rest e).0 in cc

with_string : (a : Parse json.Items) (o : Parse json.Members) (ts : List Token) (s : List ℕ) (rest : List Token)
    → value_with a o ts ≡ Some (json.string s, rest) → ts ≡ Token.string s ∷ rest
with_string a o [] s rest e = absurd (cc)
with_string a o (Token.begin_object ∷ ts) s rest e = absurd (no_object_from (o ts) s rest e)
with_string a o (Token.end_object ∷ ts) s rest e = absurd (cc)
with_string a o (Token.begin_array ∷ ts) s rest e = absurd (no_array_from (a ts) s rest e)
with_string a o (Token.end_array ∷ ts) s rest e = absurd (cc)
with_string a o (Token.key x ∷ ts) s rest e = absurd (cc)
with_string a o (Token.string x ∷ ts) s rest e =
    let p = both_of (json.string x) (json.string s) ts rest e in
    let x_is = p.0 in
    let ts_is = p.1 in
    cc
with_string a o (Token.number x ∷ ts) s rest e = let p = (both_of (json.number x) (json.string s) ts rest e).0 in absurd (cc)
with_string a o (Token.boolean b ∷ ts) s rest e = let p = (both_of (json.boolean b) (json.string s) ts rest e).0 in absurd (cc)
with_string a o (Token.null ∷ ts) s rest e = let p = (both_of json.null (json.string s) ts rest e).0 in absurd (cc)
with_string a o (Token.bad ∷ ts) s rest e = absurd (cc)

string_at : (d : ℕ) (ts : List Token) (s : List ℕ) (rest : List Token) → value d ts ≡ Some (json.string s, rest) → ts ≡ Token.string s ∷ rest
unfolding value
string_at zero ts s rest e = with_string (λ ts. None) (λ ts. None) ts s rest e
string_at (suc d) ts s rest e = with_string (λ ts. items (value d) (length ts) ts) (λ ts. members (value d) (length ts) ts) ts s rest e

end_is : (ts rest : List Token) → after_end_array ts ≡ Some rest → ts ≡ Token.end_array ∷ rest
end_is [] rest e = absurd (cc)
end_is (Token.begin_object ∷ ts) rest e = absurd (cc)
end_is (Token.end_object ∷ ts) rest e = absurd (cc)
end_is (Token.begin_array ∷ ts) rest e = absurd (cc)
end_is (Token.end_array ∷ ts) rest e = cc
end_is (Token.key s ∷ ts) rest e = absurd (cc)
end_is (Token.string s ∷ ts) rest e = absurd (cc)
end_is (Token.number s ∷ ts) rest e = absurd (cc)
end_is (Token.boolean b ∷ ts) rest e = absurd (cc)
end_is (Token.null ∷ ts) rest e = absurd (cc)
end_is (Token.bad ∷ ts) rest e = absurd (cc)

then_is : (x : Option (Json × List Token)) (f : Json × List Token → Option (json.Items × List Token)) (z : json.Items × List Token)
    → option_and_then f x ≡ Some z → (p : Json × List Token) × (x ≡ Some p) × (f p ≡ Some z)
then_is None f z e = absurd (cc)
then_is (Some p) f z e = (p, refl, e)

item_from : (j : Json) (r : Option (json.Items × List Token)) (js : json.Items) (rest : List Token) → parse_map (json.item j) r ≡ Some (js, rest)
    → (more : json.Items) × (js ≡ json.item j more) × (r ≡ Some (more, rest))
item_from j None js rest e = absurd (cc)
item_from j (Some (is, ts)) js rest e =
    let p = both_of (json.item j is) js ts rest e in
    (is, sym p.0, ap (λ r. Some (is, r)) p.1)

item_of : (a : Option Data) (o : Option made.Items) (x : Data) (xs : made.Items)
    → option_and_then (λ d. option_map (made.item d) o) a ≡ Some (made.item x xs) → (a ≡ Some x) × (o ≡ Some xs)
item_of None o x xs e = absurd (cc)
item_of (Some d) None x xs e = absurd (cc)
item_of (Some d) (Some ys) x xs e = (cc, cc)

no_item_of : (a : Option Data) (o : Option made.Items) → option_and_then (λ d. option_map (made.item d) o) a ≡ Some made.no_items → ⊥
no_item_of None o e = cc
no_item_of (Some d) None e = cc
no_item_of (Some d) (Some ys) e = cc

closed : (rest : List Token) (texts : List (List ℕ)) → of_items json.no_items ≡ Some (items_of (map made.string texts))
    → Token.end_array ∷ rest ≡ closing texts rest
closed rest [] of = refl
closed rest (t ∷ texts) of = absurd (cc)

-- what is left gives the texts that it is read as
abbrev Gives : ℕ → ℕ → List Token → Type 0
Gives d n ts =
    (js : json.Items) (rest : List Token) (texts : List (List ℕ)) → items (value d) n ts ≡ Some (js, rest)
    → of_items js ≡ Some (items_of (map made.string texts)) → ts ≡ closing texts rest

item_are : (d n : ℕ) → ((left : List Token) → Gives d n left)
    → (ts : List Token) (j : Json) (left rest : List Token) (more : json.Items) (texts : List (List ℕ))
    → value d ts ≡ Some (j, left) → items (value d) n left ≡ Some (more, rest) → of_items (json.item j more) ≡ Some (items_of (map made.string texts))
    → ts ≡ closing texts rest
item_are d n again ts j left rest more [] v r of = absurd (no_item_of (of_json j) (of_items more) of)
item_are d n again ts j left rest more (t ∷ texts) v r of =
    let parts = item_of (of_json j) (of_items more) (made.string t) (items_of (map made.string texts)) of in
    let is : j ≡ json.string t = string_is j t parts.0 in
    string_at d ts t left (v ∙ ap (λ x. Some (x, left)) is) ∙ ap (λ l. Token.string t ∷ l) (again left more rest texts r parts.1)

step_are : (d n : ℕ) → ((left : List Token) → Gives d n left) → (ts : List Token) (o : Option (List Token)) → after_end_array ts ≡ o
    → (js : json.Items) (rest : List Token) (texts : List (List ℕ)) → items_step (value d) (items (value d) n) ts o ≡ Some (js, rest)
    → of_items js ≡ Some (items_of (map made.string texts)) → ts ≡ closing texts rest
step_are d n again ts (Some left) is js rest texts e of =
    let p = both_of json.no_items js left rest e in
    end_is ts rest (is ∙ ap Some p.1) ∙ closed rest texts (subst (λ x. of_items x ≡ Some (items_of (map made.string texts))) (sym p.0) of)
step_are d n again ts None is js rest texts e of =
    let got = then_is (value d ts) (λ p. parse_map (json.item p.0) (items (value d) n p.1)) (js, rest) e in
    let more = item_from got.0.0 (items (value d) n got.0.1) js rest got.2 in
    item_are d n again ts got.0.0 got.0.1 rest more.0 texts got.1 more.2 (subst (λ x. of_items x ≡ Some (items_of (map made.string texts))) more.1 of)

items_are : (d n : ℕ) (ts : List Token) → Gives d n ts
unfolding items
items_are d zero ts js rest texts e of = absurd (cc)
items_are d (suc n) ts js rest texts e of = step_are d n (items_are d n) ts (after_end_array ts) refl js rest texts e of

pub texts_tokens : (body : List ℕ) (texts : List (List ℕ)) → read body ≡ Some (list_of texts) → tokens body ≡ Token.begin_array ∷ closing texts []
texts_tokens body texts e =
    let last = last_is (value 127 (tokens body)) (list_of texts) e in
    let list = array_is last.0 (items_of (map made.string texts)) last.2 in
    let at = array_at 126 (tokens body) list.0 [] (last.1 ∙ ap (λ x. Some (x, [])) list.1) in
    at.1 ∙ ap (λ l. Token.begin_array ∷ l) (items_are 126 (length at.0) at.0 list.0 [] texts at.2 list.2)

-- ---- as far as they were read

-- what follows some of the texts is the end of such a list too
peeled : (seen : List (List ℕ)) (left : List Token) (texts : List (List ℕ)) → map Token.string seen ++ left ≡ closing texts []
    → (more : List (List ℕ)) × (left ≡ closing more [])
peeled [] left texts e = (texts, e)
peeled (s ∷ seen) left [] e = absurd (cc)
peeled (s ∷ seen) left (t ∷ texts) e = peeled seen left texts (cc)

left_is : (body : List ℕ) (seen : List (List ℕ)) (left : List Token) → tokens body ≡ Token.begin_array ∷ (map Token.string seen ++ left)
    → (texts : List (List ℕ)) → read body ≡ Some (list_of texts) → (more : List (List ℕ)) × (left ≡ closing more [])
left_is body seen left is texts e =
    let all : Token.begin_array ∷ (map Token.string seen ++ left) ≡ Token.begin_array ∷ closing texts [] = sym is ∙ texts_tokens body texts e in
    peeled seen left texts (cc)

ends_or_goes_on : (left : List Token) (more : List (List ℕ)) → left ≡ closing more [] → after_end_array left ≡ None
    → ((text : List ℕ) (rest : List Token) → left ≢ Token.string text ∷ rest) → ⊥
ends_or_goes_on left [] is none other = let end : after_end_array left ≡ Some [] = ap after_end_array is in cc
ends_or_goes_on left (m ∷ more) is none other = other m (closing more []) is

-- neither the closing bracket nor a text is next
pub no_text : (body : List ℕ) (seen : List (List ℕ)) (left : List Token) → tokens body ≡ Token.begin_array ∷ (map Token.string seen ++ left)
    → after_end_array left ≡ None → ((text : List ℕ) (rest : List Token) → left ≢ Token.string text ∷ rest)
    → (texts : List (List ℕ)) → read body ≢ Some (list_of texts)
no_text body seen left is none other texts e =
    let more = left_is body seen left is texts e in
    ends_or_goes_on left more.0 more.1 none other

only_end : (left rest : List Token) (more : List (List ℕ)) → left ≡ closing more [] → after_end_array left ≡ Some rest → rest ≡ []
only_end left rest [] is end = let same : after_end_array left ≡ Some [] = ap after_end_array is in cc
only_end left rest (m ∷ more) is end = let same : after_end_array left ≡ None = ap after_end_array is in absurd (cc)

-- something follows the closing bracket
pub goes_on : (body : List ℕ) (seen : List (List ℕ)) (left rest : List Token) → tokens body ≡ Token.begin_array ∷ (map Token.string seen ++ left)
    → after_end_array left ≡ Some rest → rest ≢ [] → (texts : List (List ℕ)) → read body ≢ Some (list_of texts)
goes_on body seen left rest is end more texts e =
    let last = left_is body seen left is texts e in
    more (only_end left rest last.0 last.1 end)

joined : (seen : List (List ℕ)) → map Token.string seen ++ (Token.end_array ∷ []) ≡ closing seen []
joined [] = refl
joined (s ∷ seen) = ap (λ l. Token.string s ∷ l) (joined seen)

-- nothing does
pub ends : (body : List ℕ) (seen : List (List ℕ)) (left : List Token) → tokens body ≡ Token.begin_array ∷ (map Token.string seen ++ left)
    → after_end_array left ≡ Some [] → (texts : List (List ℕ)) × (read body ≡ Some (list_of texts))
ends body seen left is end = (
  seen,
  texts_read body seen (is ∙ ap (λ l. Token.begin_array ∷ (map Token.string seen ++ l)) (end_is left [] end)
      ∙ ap (λ l. Token.begin_array ∷ l) (joined seen)),
)

pub one_more : (seen : List (List ℕ)) (t : List ℕ) (left : List Token)
    → map Token.string seen ++ (Token.string t ∷ left) ≡ map Token.string (seen ++ (t ∷ [])) ++ left
one_more [] t left = refl
one_more (s ∷ seen) t left = ap (λ l. Token.string s ∷ l) (one_more seen t left)
