-- A judged term is among the trees, each of which is linear where products are judged, and whose numerals are in the range and symbols were given.
use Rattle.std.proofs.Common.{◌≡◌, ℕ, ◌+◌, arith, List, [], ◌∷◌, ◌++◌, map, refl, Bool, true, false, ◌&&◌, not, Option, Some, None}
use Rattle.std.specs.Prelude.{codes, bytes_eq, pos, if◌then◌else◌}
use Rattle.smt_meaning.specs.declared.values.Sort.{Sort}
use Rattle.smt_meaning.specs.declared.values.Sort.TheVariants.{Bool as Truths, Int as Ints}
use Rattle.smt_meaning.specs.declared.terms.Operator.{Operator}
use Rattle.smt_meaning.specs.declared.terms.Operator.TheVariants.{True, False, Divisible}
use Rattle.smt_meaning.specs.declared.terms.Head.TheVariants.{Numeral as Number, Theory, Symbol as Function}
use Rattle.smt_meaning.specs.declared.tokens.Token.{Token}
use Rattle.smt_meaning.specs.declared.tokens.Token.TheVariants.{Numeral, Symbol, Reserved, Keyword}
use Rattle.smt_meaning.specs.declared.tokens.Word.TheVariants.{Exclamation, Let}
use Rattle.smt_meaning.specs.Declaration.{Declaration, Body}
use Rattle.smt_meaning.specs.Term.{Tree, Trees, node, none, more}
use Rattle.smt_meaning.specs.TreeShape.{is_linear_operation, operation, put, with_parts}
use Rattle.smt_meaning.specs.Sexp.{Sexp, Sexps, word, group, end, ◌▸◌}
use Rattle.smt_meaning.specs.Signature.{look_up, find_function, operators}
use Rattle.smt_meaning.specs.Sorts.{Scope, Judging, Typed, Variable, Rules, trees_of, Known, variable, operator, function, unknown, known, find_variable, known_name, known_symbol, applied, applied_trees, all_are_linear, judge_symbol, judge_operator, can_be_applied, judge_application, judge_bare, judge_numeral, decimal, judge_token, is_small, head_number, judge_head, judge_divisible, check_bindings, none_twice, bound_names, name_by, judge_attributes, either, judge, judge_all, judge_bindings, has_free, variable_names}
use Rattle.smt_laws.proofs.Among.{Among, among_one, among_map, among_parts}
use Rattle.smt_laws.proofs.Each.{Each, EachOf, of_among, each_among, each_parts}
use Rattle.smt_laws.proofs.Both.{and_left}
use Rattle.smt_laws.proofs.Shapes.{Linear, linear_up, linear_each, operation_linear, left_over_linear, operation_sound, tested, Sound, sound_down, sound_up, sound_more, each_sound_more, put_each_sound}
use Rattle.smt_laws.proofs.StepLogic.{Gives, Nothing, bind_gives, next_gives, return_gives, refuse_gives, require_gives, required_gives, scope_then}
use Rattle.smt_laws.proofs.LinearLawsJudgements.{BodyStands, Stands, AllStand, stands_more, Good, After, Fine, note_found, declare_gives, linearity}

-- ---- lists of terms and of variables

abbrev pub AllFine : List Typed → Scope → Type 0
AllFine [] t = Unit {0}
AllFine (a ∷ ts) t = Fine a t × AllFine ts t

abbrev pub VariablesFine : List Variable → Scope → Type 0
VariablesFine [] t = Unit {0}
VariablesFine (v ∷ vs) t = Fine v.term t × VariablesFine vs t

abbrev AreAmong : Trees → Scope → Type 0
AreAmong us t = EachOf (λ u. Among u t.trees) us

fine_after : {b : Bool} (a : Typed) (s t : Scope) → After b s t → Fine a s → Fine a t
fine_after a s t e h = e.kept a.tree h

variables_after : {b : Bool} (vs : List Variable) (s t : Scope) → After b s t → VariablesFine vs s → VariablesFine vs t
variables_after [] s t e h = tt
variables_after (v ∷ vs) s t e h = (fine_after v.term s t e h.0, variables_after vs s t e h.1)

variables_append : (xs vs : List Variable) (t : Scope) → VariablesFine xs t → VariablesFine vs t → VariablesFine (xs ++ vs) t
variables_append [] vs t h k = k
variables_append (x ∷ xs) vs t h k = (h.0, variables_append xs vs t h.1 k)

all_after : {b : Bool} (ts : List Typed) (s t : Scope) → After b s t → AllFine ts s → AllFine ts t
all_after [] s t e h = tt
all_after (a ∷ ts) s t e h = (fine_after a s t e h.0, all_after ts s t e h.1)

are_among : (ts : List Typed) (t : Scope) → AllFine ts t → AreAmong (trees_of ts) t
are_among [] t h = tt
are_among (a ∷ ts) t h = (h.0, are_among ts t h.1)

-- ---- what a name stands for

abbrev KnownFine : Known → Scope → Type 0
KnownFine (variable a) t = Fine a t
KnownFine (function d) t = Stands t.given d
KnownFine (operator o) t = Unit {0}
KnownFine unknown t = Unit {0}

known_after : {b : Bool} (k : Known) (s t : Scope) → After b s t → KnownFine k s → KnownFine k t
known_after (variable a) s t e h = fine_after a s t e h
known_after (function d) s t e h = stands_more s.given t.given d e.given h
known_after (operator o) s t e h = tt
known_after unknown s t e h = tt

variable_step : (a : Typed) (o : Option Typed) (k : Known) (t : Scope) (b : Bool) → Fine a t → KnownFine (known_name o k) t → KnownFine (known_name (if b then Some a else o) k) t
variable_step a o k t true h g = h
variable_step a o k t false h g = g

variable_known : (n : List ℕ) (vs : List Variable) (k : Known) (t : Scope) → VariablesFine vs t → KnownFine k t → KnownFine (known_name (find_variable n vs) k) t
variable_known n [] k t h g = g
variable_known n (v ∷ vs) k t h g = variable_step v.term (find_variable n vs) k t (bytes_eq n v.name) h.0 (variable_known n vs k t h.1 g)

abbrev FoundStands : ℕ → Option Declaration → Type 0
FoundStands k None = Unit {0}
FoundStands k (Some d) = Stands k d

found_step : (k : ℕ) (d : Declaration) (o : Option Declaration) (b : Bool) → Stands k d → FoundStands k o → FoundStands k (if b then Some d else o)
found_step k d o true h g = h
found_step k d o false h g = g

found_stands : (k : ℕ) (n : List ℕ) (ds : List Declaration) → AllStand k ds → FoundStands k (find_function n ds)
found_stands k n [] h = tt
found_stands k n (d ∷ ds) h = found_step k d (find_function n ds) (bytes_eq n d.name && not d.is_sort) h.0 (found_stands k n ds h.1)

symbol_known : (o : Option Operator) (d : Option Declaration) (t : Scope) → FoundStands t.given d → KnownFine (known_symbol o d) t
symbol_known (Some o) d t h = tt
symbol_known None None t h = tt
symbol_known None (Some d) t h = h

known_fine : (c : Bool) (n : List ℕ) (vs : List Variable) (t : Scope) → Good c t → VariablesFine vs t → KnownFine (known vs n t) t
known_fine c n vs t g h =
    variable_known n vs (known_symbol (look_up n operators) (find_function n t.signature)) t h
    (symbol_known (look_up n operators) (find_function n t.signature) t (found_stands t.given n t.signature g.bodies))

-- ---- applications and bare symbols

applied_sound : (n : ℕ) (d : Declaration) (ts : Trees) → Stands n d → EachOf (Sound n) ts → Each (Sound n) (applied_trees d ts)
applied_sound n d ts h k = go d.body h.1
  where
    go : (o : Option Body) → BodyStands n o → Each (Sound n) (elim o [ None ↦ node (Function d.id) ts ∷ [] | Some b ↦ map (put ts) b.terms ])
    go None w = (sound_up n (Function d.id) ts h.0 k, tt)
    go (Some b) w = put_each_sound n ts b.terms k w.1

applied_among : (n : ℕ) (d : Declaration) (ts : Trees) → Stands n d → Among (applied d ts) (applied_trees d ts)
applied_among n d ts h = go d.body h.1
  where
    go : (o : Option Body) → BodyStands n o
        → Among (elim o [ None ↦ node (Function d.id) ts | Some b ↦ put ts b.term ]) (elim o [ None ↦ node (Function d.id) ts ∷ [] | Some b ↦ map (put ts) b.terms ])
    go None w = among_one (node (Function d.id) ts)
    go (Some b) w = among_map (put ts) b.term b.terms w.0

symbol_gives : (s : Scope) (r : Rules) (d : Declaration) (ts : Trees) → Good r.closed s → Stands s.given d → AreAmong ts s → Gives (linearity r) s (judge_symbol r d ts) Fine
symbol_gives s r d ts g h w =
    let sound : EachOf (Sound s.given) ts = of_among (Sound s.given) ts s.trees g.sound w in
    next_gives (linearity r) s _ _ _ Fine (require_gives (linearity r) s _ _)
    (λ a t f e k. note_found r t (applied_trees d ts) (applied d ts) d.rank.result (each_sound_more s.given t.given (applied_trees d ts) e.given (applied_sound s.given d ts h sound))
    (λ closed. linear_each (applied_trees d ts) (tested r.closed (all_are_linear (applied_trees d ts)) k closed)) (applied_among s.given d ts h))

operation_gives : (s : Scope) (r : Rules) (o : Operator) (ts : Trees) (x : Sort) → EachOf (Sound s.given) ts → (r.closed ≡ true → is_linear_operation o ts ≡ true → Linear (operation o ts))
    → Gives (linearity r) s (judge_operator r o ts x) Fine
operation_gives s r o ts x sound up =
    next_gives (linearity r) s _ _ _ Fine (require_gives (linearity r) s _ _)
    (λ a t f e k. note_found r t (operation o ts ∷ []) (operation o ts) x (sound_more s.given t.given (operation o ts) e.given (operation_sound s.given o ts sound), tt)
    (λ closed. (up closed (tested r.closed (is_linear_operation o ts) k closed), tt)) (among_one (operation o ts)))

-- of terms that were judged
operator_gives : (s : Scope) (r : Rules) (o : Operator) (ts : Trees) (x : Sort) → (is_linear_operation o ts ≡ true → EachOf Linear ts → Linear (operation o ts)) → Good r.closed s → AreAmong ts s
    → Gives (linearity r) s (judge_operator r o ts x) Fine
operator_gives s r o ts x up g w = operation_gives s r o ts x (of_among (Sound s.given) ts s.trees g.sound w) (λ closed l. up l (of_among Linear ts s.trees (g.linear closed) w))

bare_gives : (s : Scope) (r : Rules) (n : List ℕ) (k : Known) → Good r.closed s → KnownFine k s → Gives (linearity r) s (judge_bare r n k) Fine
bare_gives s r n (variable a) g h = return_gives (linearity r) s a Fine h
bare_gives s r n unknown g h = refuse_gives (linearity r) s _ _
bare_gives s r n (operator True) g h = operator_gives s r True none Truths (λ l e. linear_up (Theory True) none refl e) g tt
bare_gives s r n (operator False) g h = operator_gives s r False none Truths (λ l e. linear_up (Theory False) none refl e) g tt
bare_gives s r n (operator _) g h = refuse_gives (linearity r) s _ _
bare_gives s r n (function d) g h = next_gives (linearity r) s _ _ _ Fine (require_gives (linearity r) s _ _) (λ a t f e k. symbol_gives t r d none f (stands_more s.given t.given d e.given h) tt)

application_gives : (s : Scope) (r : Rules) (n : List ℕ) (k : Known) (ts : List Typed) → KnownFine k s → AllFine ts s → Gives (linearity r) s (judge_application r n k ts) Fine
application_gives s r n (variable a) ts h w = refuse_gives (linearity r) s _ _
application_gives s r n unknown ts h w = refuse_gives (linearity r) s _ _
application_gives s r n (operator o) ts h w =
    next_gives (linearity r) s _ _ _ Fine (require_gives (linearity r) s _ _)
    (λ a t g e k. bind_gives (linearity r) t _ _ _ Fine (required_gives (linearity r) t _ _)
    (λ x u f m l. operator_gives u r o (trees_of ts) x (operation_linear o ts k) f (are_among ts u (all_after ts t u m (all_after ts s t e w)))))
application_gives s r n (function d) ts h w =
    next_gives (linearity r) s _ _ _ Fine (require_gives (linearity r) s _ _)
    (λ a t g e k. next_gives (linearity r) t _ _ _ Fine (require_gives (linearity r) t _ _)
    (λ x u f m l. symbol_gives u r d (trees_of ts) f (stands_more t.given u.given d m.given (stands_more s.given t.given d e.given h)) (are_among ts u (all_after ts t u m (all_after ts s t e w)))))

can_be_applied_gives : (r : Rules) (s : Scope) (n : List ℕ) (k : Known) → Gives (linearity r) s (can_be_applied n k) Nothing
can_be_applied_gives r s n (variable a) = refuse_gives (linearity r) s _ _
can_be_applied_gives r s n unknown = refuse_gives (linearity r) s _ _
can_be_applied_gives r s n _ = return_gives (linearity r) s tt Nothing tt

none_twice_gives : (r : Rules) (s : Scope) (before ns : List (List ℕ)) → Gives (linearity r) s (none_twice before ns) Nothing
none_twice_gives r s before [] = return_gives (linearity r) s tt Nothing tt
none_twice_gives r s before (n ∷ ns) = next_gives (linearity r) s _ _ _ Nothing (require_gives (linearity r) s _ _) (λ a t g e k. none_twice_gives r t (n ∷ before) ns)

bindings_gives : (r : Rules) (s : Scope) (o : Option (List (List ℕ))) → Gives (linearity r) s (check_bindings o) Nothing
bindings_gives r s None = refuse_gives (linearity r) s _ _
bindings_gives r s (Some []) = refuse_gives (linearity r) s _ _
bindings_gives r s (Some (n ∷ ns)) = none_twice_gives r s [] (n ∷ ns)

-- ---- names

name_gives : (r : Rules) (s : Scope) (open_term : Bool) (a : Typed) (ss : Sexps) → Fine a s → Gives (linearity r) s (name_by r open_term a ss) Nothing
name_gives r s open_term a (word (Symbol n) ▸ rest) h =
    scope_then (linearity r) s _ Nothing
    (next_gives (linearity r) s _ _ _ Nothing (require_gives (linearity r) s _ _)
    (λ x t g e k. next_gives (linearity r) t _ _ _ Nothing (require_gives (linearity r) t _ _)
    (λ y u f m l. next_gives (linearity r) u _ _ _ Nothing (require_gives (linearity r) u _ _)
    (λ z v i p q. declare_gives r v _ (and_left r.naming (not open_term) k) (
      omega arith,
      (
        among_parts a.tree [],
        each_sound_more v.given (v.given + 1) (with_parts [] a.tree) (omega arith)
            (each_parts (Sound v.given) (sound_down v.given) [] a.tree tt (each_among (Sound v.given) a.tree v.trees i.sound (fine_after a u v p (fine_after a t u m (fine_after a s t e h))))),
      ),
    )))))
name_gives r s open_term a _ h = refuse_gives (linearity r) s _ _

either_gives : {A : Type 0} (r : Rules) (s : Scope) (b : Bool) (m n : Judging A) (P : A → Scope → Type 0) → Gives (linearity r) s m P → Gives (linearity r) s n P → Gives (linearity r) s (either b m n) P
either_gives r s true m n P h g = h
either_gives r s false m n P h g = g

attributes_give : (r : Rules) (s : Scope) (open_term : Bool) (a : Typed) (ss : Sexps) → Fine a s → Gives (linearity r) s (judge_attributes r open_term a ss) Nothing
attributes_give r s open_term a end h = return_gives (linearity r) s tt Nothing tt
attributes_give r s open_term a (word (Keyword k) ▸ rest) h =
    either_gives r s (bytes_eq k (codes "named")) _ _ Nothing
    (next_gives (linearity r) s _ _ _ Nothing (name_gives r s open_term a rest h) (λ x t g e w. attributes_give r t open_term a rest (fine_after a s t e h))) (attributes_give r s open_term a rest h)
attributes_give r s open_term a (_ ▸ rest) h = attributes_give r s open_term a rest h

-- ---- terms

numeral_gives : (r : Rules) (s : Scope) (n : ℕ) → Gives (linearity r) s (judge_numeral n) Fine
numeral_gives r s n =
    next_gives (linearity r) s _ _ _ Fine (require_gives (linearity r) s _ _)
    (λ a t g e k. note_found r t (node (Number (pos n)) none ∷ []) (node (Number (pos n)) none) Ints (sound_up t.given (Number (pos n)) none k tt, tt) (λ closed. (refl, tt))
    (among_one (node (Number (pos n)) none)))

token_gives : (s : Scope) (r : Rules) (vs : List Variable) (t : Token) → Good r.closed s → VariablesFine vs s → Gives (linearity r) s (judge_token r vs t) Fine
token_gives s r vs (Symbol n) g h = scope_then (linearity r) s (λ u. judge_bare r n (known vs n u)) Fine (bare_gives s r n (known vs n s) g (known_fine r.closed n vs s g h))
token_gives s r vs (Numeral cs) g h = numeral_gives r s (decimal cs)
token_gives s r vs _ g h = refuse_gives (linearity r) s _ _

-- ---- (_ divisible n)

head_gives : (r : Rules) (s : Scope) (o : Option ℕ) → Gives (linearity r) s (judge_head o) (λ n t. is_small n ≡ true)
head_gives r s None = refuse_gives (linearity r) s _ _
head_gives r s (Some n) =
    next_gives (linearity r) s _ _ _ (λ m t. is_small m ≡ true) (require_gives (linearity r) s _ _)
    (λ a t g e k. next_gives (linearity r) t _ _ _ (λ m u. is_small m ≡ true) (require_gives (linearity r) t _ _) (λ b u f d small. return_gives (linearity r) u n (λ m v. is_small m ≡ true) small))

divisible_gives : (s : Scope) (r : Rules) (n : ℕ) (ts : List Typed) → is_small n ≡ true → Good r.closed s → AllFine ts s → Gives (linearity r) s (judge_divisible r n ts) Fine
divisible_gives s r n [] small g w = refuse_gives (linearity r) s _ _
divisible_gives s r n (a ∷ []) small g w =
    let number : Tree = node (Number (pos n)) none in
    next_gives (linearity r) s _ _ _ Fine (require_gives (linearity r) s _ _)
    (λ b t f e k. operation_gives t r Divisible (more a.tree (more number none)) Truths
    (sound_more s.given t.given a.tree e.given (of_among (Sound s.given) (trees_of (a ∷ [])) s.trees g.sound (are_among (a ∷ []) s w)).0, (sound_up t.given (Number (pos n)) none small tt, tt))
    (λ closed l. left_over_linear Divisible a.tree number (λ q. q) l (of_among Linear (trees_of (a ∷ [])) s.trees (g.linear closed) (are_among (a ∷ []) s w)).0 refl))
divisible_gives s r n (a ∷ b ∷ ts) small g w = refuse_gives (linearity r) s _ _

mutual
  pub judge_gives : (r : Rules) (vs : List Variable) (x : Sexp) (s : Scope) → Good r.closed s → VariablesFine vs s → Gives (linearity r) s (judge r vs x) Fine
  judge_gives r vs (word t) s g h = token_gives s r vs t g h
  judge_gives r vs (group (word (Reserved Let) ▸ group bs ▸ b ▸ end)) s g h =
      next_gives (linearity r) s _ _ _ Fine (bindings_gives r s (bound_names bs))
      (λ y t f e k. bind_gives (linearity r) t _ _ VariablesFine Fine (bindings_give r vs bs t f (variables_after vs s t e h))
      (λ xs u d m l. judge_gives r (xs ++ vs) b u d (variables_append xs vs u l (variables_after vs t u m (variables_after vs s t e h)))))
  judge_gives r vs (group (word (Reserved Let) ▸ _)) s g h = refuse_gives (linearity r) s _ _
  judge_gives r vs (group (word (Reserved Exclamation) ▸ x ▸ rest)) s g h =
      next_gives (linearity r) s _ _ _ Fine (require_gives (linearity r) s _ _)
      (λ y t f e k. bind_gives (linearity r) t _ _ Fine Fine (judge_gives r vs x t f (variables_after vs s t e h))
      (λ a u d m l. next_gives (linearity r) u _ _ _ Fine (attributes_give r u (has_free (variable_names vs) x) a rest l)
      (λ z v i p q. return_gives (linearity r) v a Fine (fine_after a u v p l))))
  judge_gives r vs (group (word (Reserved Exclamation) ▸ end)) s g h = refuse_gives (linearity r) s _ _
  judge_gives r vs (group (word (Reserved w) ▸ _)) s g h = refuse_gives (linearity r) s _ _
  judge_gives r vs (group (word (Symbol n) ▸ xs)) s g h =
      scope_then (linearity r) s _ Fine
      (next_gives (linearity r) s _ _ _ Fine (can_be_applied_gives r s n (known vs n s))
      (λ y t f e k. bind_gives (linearity r) t _ _ AllFine Fine (all_give r vs xs t f (variables_after vs s t e h))
      (λ ts u d m l. application_gives u r n (known vs n s) ts (known_after (known vs n s) t u m (known_after (known vs n s) s t e (known_fine r.closed n vs s g h))) l)))
  judge_gives r vs (group (group hs ▸ xs)) s g h =
      bind_gives (linearity r) s _ _ _ Fine (head_gives r s (head_number hs))
      (λ n t f e small. bind_gives (linearity r) t _ _ AllFine Fine (all_give r vs xs t f (variables_after vs s t e h)) (λ ts u d m l. divisible_gives u r n ts small d l))
  judge_gives r vs (group _) s g h = refuse_gives (linearity r) s _ _

  pub all_give : (r : Rules) (vs : List Variable) (xs : Sexps) (s : Scope) → Good r.closed s → VariablesFine vs s → Gives (linearity r) s (judge_all r vs xs) AllFine
  all_give r vs end s g h = return_gives (linearity r) s [] AllFine tt
  all_give r vs (x ▸ xs) s g h =
      bind_gives (linearity r) s _ _ Fine AllFine (judge_gives r vs x s g h)
      (λ a t f e k. bind_gives (linearity r) t _ _ AllFine AllFine (all_give r vs xs t f (variables_after vs s t e h))
      (λ ts u d m l. return_gives (linearity r) u (a ∷ ts) AllFine (fine_after a t u m k, l)))

  bindings_give : (r : Rules) (vs : List Variable) (bs : Sexps) (s : Scope) → Good r.closed s → VariablesFine vs s → Gives (linearity r) s (judge_bindings r vs bs) VariablesFine
  bindings_give r vs end s g h = return_gives (linearity r) s [] VariablesFine tt
  bindings_give r vs (group (word (Symbol n) ▸ x ▸ end) ▸ rest) s g h =
      bind_gives (linearity r) s _ _ Fine VariablesFine (judge_gives r vs x s g h)
      (λ a t f e k. bind_gives (linearity r) t _ _ VariablesFine VariablesFine (bindings_give r vs rest t f (variables_after vs s t e h))
      (λ xs u d m l. return_gives (linearity r) u _ VariablesFine (fine_after a t u m k, l)))
  bindings_give r vs (_ ▸ rest) s g h = refuse_gives (linearity r) s _ _
