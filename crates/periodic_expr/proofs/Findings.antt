-- What the scan has found of a tree is what the tree means, and its first fault is the tree's.
use Rattle.std.proofs.Common.{◌≡◌, ℕ, Bool, true, false, not, ◌&&◌, ◌||◌, nat_le, nat_lt, nat_eq, List, [], ◌∷◌, ◌++◌, length, take, drop, map, Option, Some, None, refl, ap, sym, ◌∙◌, append_assoc, if◌then◌else◌}
use Rattle.std.specs.List.{list_any, insert, take_while}
use Rattle.std.proofs.lemmas.Bool.{false≢true}
use Rattle.gtrbac_model.specs.declared.calendars.Calendar.{Calendar}
use Rattle.gtrbac_model.specs.Period.{Part, Expr}
use Rattle.gtrbac_model.specs.Valid.{is_below, is_same}
use Rattle.periodic_expr.specs.declared.faults.ExprFault.{ExprFault}
use Rattle.periodic_expr.specs.declared.faults.ExprKind.{ExprKind}
use Rattle.periodic_expr.specs.declared.faults.ExprKind.TheVariants.{FirstNotAll, NotFiner, ZeroIndex, EmptySet, BadLength}
use Rattle.periodic_expr.specs.declared.scan.Act.TheVariants.{Open, Begin, Index}
use Rattle.periodic_expr.specs.Sketch.{Sketch, empty, noted, put_in, put_into, has_number, is_empty, acted}
use Rattle.periodic_expr.specs.Grammar.{Number, RawPart, RawLength, RawExpr, where_not, zero_faults, set_faults, first_faults, later_faults, gathered, set_of, part_of, last_calendar, with_span}
use Rattle.periodic_expr.proofs.Tokens.{part_ended}
use Rattle.periodic_expr.proofs.Trees.{numbers_seen, set_seen, part_seen, parts_seen, span_seen}

-- the first of some faults, where there was none before
abbrev pub firstly : Option ExprFault → List ExprFault → Option ExprFault
firstly (Some f) fs = Some f
firstly None [] = None
firstly None (f ∷ fs) = Some f

firstly_none : (o : Option ExprFault) → firstly o [] ≡ o
firstly_none (Some f) = refl
firstly_none None = refl

pub firstly_more : (o : Option ExprFault) (fs gs : List ExprFault) → firstly (firstly o fs) gs ≡ firstly o (fs ++ gs)
firstly_more (Some f) fs gs = refl
firstly_more None [] gs = refl
firstly_more None (f ∷ fs) gs = refl

noted_first : (o : Option ExprFault) (good : Bool) (at : ℕ) (kind : ExprKind) → noted o good at kind ≡ firstly o (where_not good at kind)
noted_first (Some f) good at kind = refl
noted_first None true at kind = refl
noted_first None false at kind = refl

-- numbers of a set
record Numbers (ns : List Number) (s : Sketch) (ks : List ℕ) (t : Sketch) : Type 0 where
  parts : t.parts ≡ s.parts
  set : t.set ≡ Some (gathered ks (map (λ n. n.value) ns))
  brace : t.brace ≡ s.brace
  above : t.above ≡ s.above
  count : t.count ≡ s.count
  fault : t.fault ≡ firstly s.fault (zero_faults ns)

numbers_found : (ns : List Number) (s : Sketch) (ks : List ℕ) → s.set ≡ Some ks → Numbers ns s ks (numbers_seen ns s)
numbers_found [] s ks e = record { parts = refl; set = e; brace = refl; above = refl; count = refl; fault = sym (firstly_none s.fault) }
numbers_found (n ∷ ns) s ks e =
    let t = acted (Index n.value) 0 (acted Begin n.place s) in
    let r = numbers_found ns t (put_in n.value ks) (ap (put_into n.value) e) in
    let one : t.fault ≡ firstly s.fault (where_not (nat_lt 0 n.value) n.place ZeroIndex) = noted_first s.fault (nat_le 1 n.value) n.place ZeroIndex in
    record {
      parts = r.parts;
      set = r.set;
      brace = r.brace;
      above = r.above;
      count = r.count;
      fault = r.fault ∙ ap (λ o. firstly o (zero_faults ns)) one ∙ firstly_more s.fault (where_not (nat_lt 0 n.value) n.place ZeroIndex) (zero_faults ns);
    }

abbrev some : List ℕ → Bool
some [] = false
some (n ∷ ns) = true

some_append : (xs ys : List ℕ) → some ys ≡ true → some (xs ++ ys) ≡ true
some_append [] ys h = h
some_append (x ∷ xs) ys h = refl

some_put : (n : ℕ) (ks : List ℕ) → some (put_in n ks) ≡ true
some_put n [] = refl
some_put n (k ∷ ks) = chosen (list_any (nat_eq n) (k ∷ ks))
  where
    chosen : (b : Bool) → some (if b then k ∷ ks else insert (k ∷ ks) (length (take_while (λ m. nat_lt m n) (k ∷ ks))) n) ≡ true
    chosen true = refl
    chosen false = some_append (take (length (take_while (λ m. nat_lt m n) (k ∷ ks))) (k ∷ ks)) (n ∷ drop (length (take_while (λ m. nat_lt m n) (k ∷ ks))) (k ∷ ks)) refl

some_gathered : (ns ks : List ℕ) → some ks ≡ true → some (gathered ks ns) ≡ true
some_gathered [] ks h = h
some_gathered (n ∷ ns) ks h = some_gathered ns (put_in n ks) (some_put n ks)

number_in : (ks : List ℕ) → some ks ≡ true → has_number (Some ks) ≡ true
number_in [] h = absurd (false≢true h)
number_in (k ∷ ks) h = refl

-- a further part

abbrev with_part : Sketch → Calendar → Option (List ℕ) → List Part
with_part s c set = s.parts ++ record { calendar = c; set = set } ∷ []

record Found (parts : List Part) (count : ℕ) (fault : Option ExprFault) (t : Sketch) : Type 0 where
  parts_are : t.parts ≡ parts
  count_is : t.count ≡ count
  fault_is : t.fault ≡ fault

-- the notes at the end of a part, of which the first tells whether the set has a number
ending : (o : Option ExprFault) (numbered below : Bool) (brace n : ℕ) → noted (noted o numbered brace EmptySet) below n NotFiner ≡ firstly o (where_not numbered brace EmptySet ++ where_not below n NotFiner)
ending o numbered below brace n =
    noted_first (noted o numbered brace EmptySet) below n NotFiner ∙ ap (λ x. firstly x (where_not below n NotFiner)) (noted_first o numbered brace EmptySet)
    ∙ firstly_more o (where_not numbered brace EmptySet) (where_not below n NotFiner)

abbrev noting : Option ExprFault → Bool → Bool → ℕ → ℕ → Option ExprFault
noting o numbered below brace n = noted (noted o numbered brace EmptySet) below n NotFiner

later_found : (place : ℕ) (set : Option (List Number)) (c : Calendar) (n : ℕ) (s : Sketch) → is_empty s.parts ≡ false → s.set ≡ None
    → Found (with_part s c (set_of set)) s.count (firstly s.fault (set_faults place set ++ where_not (is_below s.above c) n NotFiner)) (part_ended c n (set_seen place set s))
later_found place None c n s more none =
    let below : (is_empty s.parts || is_below s.above c) ≡ is_below s.above c = ap (λ b. b || is_below s.above c) more in
    record {
      parts_are = ap (with_part s c) none;
      count_is = refl;
      fault_is = ap (λ x. noting s.fault (has_number x) (is_empty s.parts || is_below s.above c) s.brace n) none ∙ ap (λ b. noting s.fault true b s.brace n) below ∙ ending s.fault true (is_below s.above c) s.brace n;
    }
later_found place (Some []) c n s more none =
    let below : (is_empty s.parts || is_below s.above c) ≡ is_below s.above c = ap (λ b. b || is_below s.above c) more in
    let open_is : noted s.fault (not (is_empty s.parts)) place FirstNotAll ≡ s.fault = ap (λ b. noted s.fault (not b) place FirstNotAll) more ∙ noted_first s.fault true place FirstNotAll ∙ firstly_none s.fault in
    record {
      parts_are = refl;
      count_is = refl;
      fault_is = ap (λ o. noting o false (is_empty s.parts || is_below s.above c) place n) open_is ∙ ap (λ b. noting s.fault false b place n) below ∙ ending s.fault false (is_below s.above c) place n;
    }
later_found place (Some (m ∷ ms)) c n s more none =
    let u = acted Open place s in
    let ns = m ∷ ms in
    let ks = gathered [] (map (λ n. n.value) ns) in
    let t = numbers_seen ns u in
    let r = numbers_found ns u [] refl in
    let open_is : u.fault ≡ s.fault = ap (λ b. noted s.fault (not b) place FirstNotAll) more ∙ noted_first s.fault true place FirstNotAll ∙ firstly_none s.fault in
    let numbered : has_number t.set ≡ true = ap has_number r.set ∙ number_in ks (some_gathered (map (λ n. n.value) ms) (put_in m.value []) (some_put m.value [])) in
    let below : (is_empty t.parts || is_below t.above c) ≡ is_below s.above c =
    ap (λ ps. is_empty ps || is_below t.above c) r.parts ∙ ap (λ b. b || is_below t.above c) more ∙ ap (λ a. is_below a c) r.above in
    record {
      parts_are = ap (λ ps. ps ++ record { calendar = c; set = t.set } ∷ []) r.parts ∙ ap (with_part s c) r.set;
      count_is = r.count;
      fault_is = ap (λ b. noting t.fault b (is_empty t.parts || is_below t.above c) t.brace n) numbered ∙ ap (λ b. noting t.fault true b t.brace n) below
          ∙ ending t.fault true (is_below s.above c) t.brace n
          ∙ ap (λ o. firstly o (where_not (is_below s.above c) n NotFiner)) (r.fault ∙ ap (λ o. firstly o (zero_faults ns)) open_is)
          ∙ firstly_more s.fault (zero_faults ns) (where_not (is_below s.above c) n NotFiner);
    }

first_found : (place : ℕ) (set : Option (List Number)) (c : Calendar) (n : ℕ) → Found (with_part empty c (set_of set)) 1 (firstly None (first_faults place set)) (part_ended c n (set_seen place set empty))
first_found place None c n = record { parts_are = refl; count_is = refl; fault_is = refl }
first_found place (Some ns) c n =
    let u = acted Open place empty in
    let t = numbers_seen ns u in
    let r = numbers_found ns u [] refl in
    record {
      parts_are = ap (λ ps. ps ++ record { calendar = c; set = t.set } ∷ []) r.parts ∙ ap (with_part empty c) r.set;
      count_is = r.count;
      fault_is = ap (λ o. noting o (has_number t.set) (is_empty t.parts || is_below t.above c) t.brace n) r.fault;
    }

-- all further parts and the length

pub record Whole (parts : List Part) (above : Calendar) (o : Option ExprFault) (ps : List RawPart) (span : Option RawLength) (t : Sketch) : Type 0 where
  pub parts_are : t.parts ≡ parts ++ map part_of ps
  pub fault_is : t.fault ≡ firstly o (later_faults above ps span)
  pub means : record { parts = t.parts; count = t.count; unit = t.unit } ≡ with_span (parts ++ map part_of ps) (last_calendar above ps) span

abbrev expr : List Part → ℕ → Calendar → Expr
expr parts count unit = record { parts = parts; count = count; unit = unit }

not_empty : (xs : List Part) (x : Part) → is_empty (xs ++ x ∷ []) ≡ false
not_empty [] x = refl
not_empty (y ∷ ys) x = refl

append_none : (xs : List Part) → xs ++ [] ≡ xs
append_none [] = refl
append_none (x ∷ xs) = ap (λ ys. x ∷ ys) (append_none xs)

span_found : (span : Option RawLength) (s : Sketch) (parts : List Part) (above : Calendar) (o : Option ExprFault) → s.parts ≡ parts → s.above ≡ above → s.unit ≡ above → s.count ≡ 1 → s.fault ≡ o → Whole parts above o [] span (span_seen span s)
span_found None s parts above o p a u c f = record {
  parts_are = p ∙ sym (append_none parts);
  fault_is = f ∙ sym (firstly_none o);
  means = ap (λ x. expr x s.count s.unit) (p ∙ sym (append_none parts)) ∙ ap (λ x. expr (parts ++ []) x s.unit) c ∙ ap (λ x. expr (parts ++ []) 1 x) u;
}
span_found (Some l) s parts above o p a u c f =
    let good = nat_le 1 l.count.value && nat_le l.count.value 1000 in
    let below = is_same above l.unit || is_below above l.unit in
    record {
      parts_are = p ∙ sym (append_none parts);
      fault_is = ap (λ x. noted (noted x good l.count.place BadLength) (is_same s.above l.unit || is_below s.above l.unit) l.unit_place NotFiner) f
          ∙ ap (λ x. noted (noted o good l.count.place BadLength) (is_same x l.unit || is_below x l.unit) l.unit_place NotFiner) a
          ∙ noted_first (noted o good l.count.place BadLength) below l.unit_place NotFiner ∙ ap (λ x. firstly x (where_not below l.unit_place NotFiner)) (noted_first o good l.count.place BadLength)
          ∙ firstly_more o (where_not good l.count.place BadLength) (where_not below l.unit_place NotFiner);
      means = ap (λ x. expr x l.count.value l.unit) (p ∙ sym (append_none parts));
    }

parts_found : (ps : List RawPart) (span : Option RawLength) (s : Sketch) (parts : List Part) (above : Calendar) (o : Option ExprFault) → s.parts ≡ parts → is_empty parts ≡ false → s.set ≡ None → s.above ≡ above → s.unit ≡ above → s.count ≡ 1 → s.fault ≡ o → Whole parts above o ps span (span_seen span (parts_seen ps s))
parts_found [] span s parts above o p more none a u c f = span_found span s parts above o p a u c f
parts_found (q ∷ qs) span s parts above o p more none a u c f =
    let t = part_seen q s in
    let r = later_found q.place q.set q.calendar q.calendar_place s (ap is_empty p ∙ more) none in
    let fs = set_faults q.place q.set ++ where_not (is_below above q.calendar) q.calendar_place NotFiner in
    let longer = parts ++ part_of q ∷ [] in
    let parts_are : t.parts ≡ longer = r.parts_are ∙ ap (λ x. x ++ part_of q ∷ []) p in
    let fault_is : t.fault ≡ firstly o fs = r.fault_is ∙ ap (λ x. firstly x (set_faults q.place q.set ++ where_not (is_below s.above q.calendar) q.calendar_place NotFiner)) f
    ∙ ap (λ x. firstly o (set_faults q.place q.set ++ where_not (is_below x q.calendar) q.calendar_place NotFiner)) a in
    let w = parts_found qs span t longer q.calendar (firstly o fs) parts_are (not_empty parts (part_of q)) refl refl refl (r.count_is ∙ c) fault_is in
    let same : longer ++ map part_of qs ≡ parts ++ part_of q ∷ map part_of qs = rw append_assoc in
    record {
      parts_are = w.parts_are ∙ same;
      fault_is = w.fault_is ∙ firstly_more o fs (later_faults q.calendar qs span);
      means = w.means ∙ ap (λ x. with_span x (last_calendar q.calendar qs) span) same;
    }

-- the whole tree
pub tree_found : (e : RawExpr) → Whole (part_of e.first ∷ []) e.first.calendar (firstly None (first_faults e.first.place e.first.set)) e.more e.span (span_seen e.span (parts_seen e.more (part_seen e.first empty)))
tree_found e =
    let r = first_found e.first.place e.first.set e.first.calendar e.first.calendar_place in
    parts_found e.more e.span (part_seen e.first empty) (part_of e.first ∷ []) e.first.calendar (firstly None (first_faults e.first.place e.first.set)) r.parts_are refl refl refl refl r.count_is r.fault_is
