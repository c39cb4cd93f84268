use Rattle.std.proofs.Common.{◌≡◌, Some, ap, sym, ◌∙◌}
use Rattle.std.specs.Prelude.{is_some}
use Rattle.gt_io.specs.MemoryShelf.{Texts, file_text, bytes_at}
use Rattle.gt_io.proofs.Supplies.{supply_at}
use Rattle.gt_io.proofs.Shelves.{broken_find, missing_find, found_find}
use Rattle.gt_io.proofs.memory_shelf.MemShelfShelf.find.Goals as goal

pub returns-then-begin_search-clause-finds : goal.returns-then-begin_search-clause-finds
returns-then-begin_search-clause-finds c = broken_find c.args.self.now c.begin_search.new.self c.args.name.now _ c.if-begin_search.ensures.listed c.if-begin_search.ensures.made

pub returns-in_default-clause-finds : goal.returns-in_default-clause-finds
returns-in_default-clause-finds c =
    let s = c.self.inside in
    let v : Texts = record { files = s.files.items; text = supply_at (bytes_at s.files.items s.place) s.at s.piece s.calls s.ends; hard_faults = s.hard_faults; asked = s.asked } in
    let seen : file_text c.as_slice.result.now c.as_bytes.result.now ≡ file_text s.files.items c.args.name.now = λ i. file_text (c.as_slice.ensures i) (c.as_bytes.ensures.value i) in
    missing_find c.args.self.now v c.fail.new.self c.args.name.now _ c.if-begin_search.ensures.listed (c.self.view_is ∙ c.if-begin_search.ensures.made) c.fail.ensures.failed (sym seen ∙ c.in_default.ensures.none)

pub returns-clause-finds : goal.returns-clause-finds
returns-clause-finds c =
    let s = c.self.inside in
    let place = c.in-Some.place in
    let v : Texts = record { files = s.files.items; text = supply_at (bytes_at s.files.items s.place) s.at s.piece s.calls s.ends; hard_faults = s.hard_faults; asked = s.asked } in
    let seen : file_text c.as_slice.result.now c.as_bytes.result.now ≡ file_text s.files.items c.args.name.now = λ i. file_text (c.as_slice.ensures i) (c.as_bytes.ensures.value i) in
    found_find c.args.self.now v (bytes_at s.files.items place) c.args.name.now c.if-begin_search.ensures.listed (c.self.view_is ∙ c.if-begin_search.ensures.made)
    (sym seen ∙ c.in-Some.ensures.place ∙ (λ i. Some (bytes_at (c.as_slice.ensures i) place)))

pub returns-clause-found : goal.returns-clause-found
returns-clause-found c =
    let s = c.self.inside in
    let place = c.in-Some.place in
    let seen : file_text c.as_slice.result.now c.as_bytes.result.now ≡ file_text c.args.self.now.files c.args.name.now =
    (λ i. file_text (c.as_slice.ensures i) (c.as_bytes.ensures.value i)) ∙ ap (λ (t : Texts). file_text t.files c.args.name.now) (c.self.view_is ∙ c.if-begin_search.ensures.made) in
    let there : file_text c.args.self.now.files c.args.name.now ≡ Some (bytes_at s.files.items place) = sym seen ∙ c.in-Some.ensures.place ∙ (λ i. Some (bytes_at (c.as_slice.ensures i) place)) in
    (ap is_some there, sym there)
