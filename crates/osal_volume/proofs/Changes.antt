-- What the changes of a tree and its blocks make of the volume.
use Rattle.std.proofs.Common.{◌≡◌, ◌+◌, ◌-◌, ◌<◌, ℕ, zero, suc, List, [], ◌∷◌, length, length-set, get_or, set, get_or-set_same, get_or-set_other, Option, None, Some, option_map, refl, sym, ap, ◌∙◌, inl, inr, arith}
use Rattle.std.specs.List.{sum_by}
use Rattle.std.specs.FinMap as map
use Rattle.std.proofs.lemmas.Bool.{cases_eq}
use Rattle.std.proofs.lemmas.List.Sums.{sum_by-cons}
use Rattle.osal_tree.specs.declared.kind.Kind.{Kind}
use Rattle.osal_tree.specs.declared.kind.Kind.TheVariants as kind
use Rattle.osal_tree.specs.Nodes.{Nodes, IsTree, IsFresh}
use Rattle.osal_tree.proofs.Maps as tree
use Rattle.osal_tree.proofs.Paths.{path_cases}
use Rattle.osal_blocks.specs.Blocks.{BlocksState, bytes_of, blocks_of, with_file, with_reserved}
use Rattle.osal_volume.specs.Volume.{Dir, Bytes, VolumeState, blocks_taken, with_node, without_node}
use Rattle.osal_volume.specs.Whole.{content_of, as_directory}
use Rattle.osal_volume.proofs.Sums.{put_here, put_there, gone_here, gone_there, total_more, total_less, total_other}
use Rattle.osal_volume.proofs.Held.{Held}

sum_set : (files : List (List ℕ)) (file : ℕ) (bytes : List ℕ) → file < length files → sum_by blocks_of (set files file bytes) + blocks_of (get_or files file []) ≡ blocks_of bytes + sum_by blocks_of files
sum_set [] file bytes less = absurd (omega arith)
sum_set (old ∷ files) zero bytes less =
    let now = sum_by-cons blocks_of bytes files in let before = sum_by-cons blocks_of old files in omega arith
sum_set (old ∷ files) (suc file) bytes less =
    let now = sum_by-cons blocks_of old (set files file bytes) in
    let before = sum_by-cons blocks_of old files in
    let rest = sum_set files file bytes (omega arith) in omega arith

module _ {nodes : Nodes} {blocks : BlocksState} {state : VolumeState} (held : Held nodes blocks state) (at : List (List ℕ)) where
  -- a file without bytes
  pub held_create : (number : ℕ) → map.get nodes at ≡ None → IsFresh nodes number → Held (map.insert nodes at (kind.File number)) blocks (with_node state at (Bytes []))
  held_create number none fresh = record {
    total = held.total;
    exact = λ q. elim (path_cases q at) [
      | inl same ↦
          ap (map.get (map.insert state.nodes at (Bytes []))) same ∙ put_here state.nodes at (Bytes [])
          ∙ sym (ap (λ bytes. Some (Bytes bytes)) (held.unused number fresh))
          ∙ sym (ap (option_map (content_of blocks)) (ap (map.get (map.insert nodes at (kind.File number))) same ∙ tree.put_here nodes at (kind.File number)))
      | inr ne ↦
          put_there state.nodes at (Bytes []) q ne ∙ held.exact q ∙ sym (ap (option_map (content_of blocks)) (tree.put_there nodes at (kind.File number) q ne))
    ];
    files = held.files;
    unused = λ other free. held.unused other (λ q is. free q (tree.put_there nodes at (kind.File number) q (λ e. no_node q e is) ∙ is));
    reserved = (let more = total_more as_directory state.nodes at (Bytes []) absent in let before = held.reserved in omega arith);
    counted = (let more = total_more blocks_taken state.nodes at (Bytes []) absent in let before = held.counted in omega arith);
  }
    where
      absent : map.get state.nodes at ≡ None
      absent = held.exact at ∙ ap (option_map (content_of blocks)) none

      no_node : (q : List (List ℕ)) {there : Kind} → q ≡ at → map.get nodes q ≡ Some there → ⊥
      no_node q e is = let same = ap (map.get nodes) e in cc

  -- a directory, which takes a block
  pub held_mkdir : map.get nodes at ≡ None → Held (map.insert nodes at kind.Directory) (with_reserved blocks (blocks.reserved + 1)) (with_node state at Dir)
  held_mkdir none = record {
    total = held.total;
    exact = λ q. elim (path_cases q at) [
      | inl same ↦
          ap (map.get (map.insert state.nodes at Dir)) same ∙ put_here state.nodes at Dir
          ∙ sym (ap (option_map (content_of (with_reserved blocks (blocks.reserved + 1)))) (ap (map.get (map.insert nodes at kind.Directory)) same ∙ tree.put_here nodes at kind.Directory))
      | inr ne ↦
          put_there state.nodes at Dir q ne ∙ held.exact q ∙ reread (map.get nodes q)
          ∙ sym (ap (option_map (content_of (with_reserved blocks (blocks.reserved + 1)))) (tree.put_there nodes at kind.Directory q ne))
    ];
    files = held.files;
    unused = λ other free. held.unused other (λ q is. free q (tree.put_there nodes at kind.Directory q (λ e. no_node q e is) ∙ is));
    reserved = (let more = total_more as_directory state.nodes at Dir absent in let before = held.reserved in omega arith);
    counted = (let more = total_more blocks_taken state.nodes at Dir absent in let before = held.counted in omega arith);
  }
    where
      absent : map.get state.nodes at ≡ None
      absent = held.exact at ∙ ap (option_map (content_of blocks)) none

      no_node : (q : List (List ℕ)) {there : Kind} → q ≡ at → map.get nodes q ≡ Some there → ⊥
      no_node q e is = let same = ap (map.get nodes) e in cc

      reread : (o : Option Kind) → option_map (content_of blocks) o ≡ option_map (content_of (with_reserved blocks (blocks.reserved + 1))) o
      reread None = refl
      reread (Some kind.Directory) = refl
      reread (Some (kind.File number)) = refl

  -- other bytes in a file
  pub held_file : IsTree nodes → (number : ℕ) → number < 256 → map.get nodes at ≡ Some (kind.File number) → (bytes : List ℕ) → Held nodes (with_file blocks number bytes) (with_node state at (Bytes bytes))
  held_file good number few is bytes = record {
    total = held.total;
    exact = λ q. elim (path_cases q at) [
      | inl same ↦
          ap (map.get (map.insert state.nodes at (Bytes bytes))) same ∙ put_here state.nodes at (Bytes bytes)
          ∙ sym (ap (λ b. Some (Bytes b)) (get_or-set_same blocks.files number bytes [] within))
          ∙ sym (ap (option_map (content_of (with_file blocks number bytes))) (ap (map.get nodes) same ∙ is))
      | inr ne ↦ put_there state.nodes at (Bytes bytes) q ne ∙ held.exact q ∙ others q ne (map.get nodes q) refl
    ];
    files = length-set blocks.files number bytes ∙ held.files;
    unused = λ other free.
        get_or-set_other blocks.files number other bytes [] (λ e. free at (is ∙ ap (λ n. Some (kind.File n)) (sym e))) ∙ held.unused other free;
    reserved = (let more = total_other as_directory state.nodes at (Bytes (bytes_of blocks number)) (Bytes bytes) got in let before = held.reserved in omega arith);
    counted = (
        let more = total_other blocks_taken state.nodes at (Bytes (bytes_of blocks number)) (Bytes bytes) got in
        let sum = sum_set blocks.files number bytes within in
        let before = held.counted in omega arith);
  }
    where
      within : number < length blocks.files
      within = let wide = held.files in omega arith

      got : map.get state.nodes at ≡ Some (Bytes (bytes_of blocks number))
      got = held.exact at ∙ ap (option_map (content_of blocks)) is

      others : (q : List (List ℕ)) → (q ≡ at → ⊥) → (o : Option Kind) → map.get nodes q ≡ o → option_map (content_of blocks) o ≡ option_map (content_of (with_file blocks number bytes)) o
      others q ne None e = refl
      others q ne (Some kind.Directory) e = refl
      others q ne (Some (kind.File other)) e =
          ap (λ b. Some (Bytes b)) (sym (get_or-set_other blocks.files number other bytes [] (λ same. ne (good.numbers q at number (e ∙ ap (λ n. Some (kind.File n)) same) is))))

  -- no file any more where one without bytes was
  pub held_gone : (number : ℕ) → map.get nodes at ≡ Some (kind.File number) → bytes_of blocks number ≡ [] → Held (map.remove nodes at) blocks (without_node state at)
  held_gone number is none = record {
    total = held.total;
    exact = λ q. elim (path_cases q at) [
      | inl same ↦
          ap (map.get (map.remove state.nodes at)) same ∙ gone_here state.nodes at
          ∙ sym (ap (option_map (content_of blocks)) (ap (map.get (map.remove nodes at)) same ∙ tree.gone_here nodes at))
      | inr ne ↦ gone_there state.nodes at q ne ∙ held.exact q ∙ sym (ap (option_map (content_of blocks)) (tree.gone_there nodes at q ne))
    ];
    files = held.files;
    unused = λ other free. elim (cases_eq other number) [
      | inl same ↦ ap (bytes_of blocks) same ∙ none
      | inr differ ↦ held.unused other (λ q e. free q (tree.gone_there nodes at q (λ here.
          let found : Some (kind.File other) ≡ Some (kind.File number) = sym e ∙ ap (map.get nodes) here ∙ is in
          let same : other ≡ number = cc in differ same) ∙ e))
    ];
    reserved = (let less = total_less as_directory state.nodes at (Bytes []) got in let before = held.reserved in omega arith);
    counted = (let less = total_less blocks_taken state.nodes at (Bytes []) got in let before = held.counted in omega arith);
  }
    where
      got : map.get state.nodes at ≡ Some (Bytes [])
      got = held.exact at ∙ ap (option_map (content_of blocks)) is ∙ ap (λ b. Some (Bytes b)) none

  -- no directory any more, and its block is given back
  pub held_rmdir : map.get nodes at ≡ Some kind.Directory → Held (map.remove nodes at) (with_reserved blocks (blocks.reserved - 1)) (without_node state at)
  held_rmdir is = record {
    total = held.total;
    exact = λ q. elim (path_cases q at) [
      | inl same ↦
          ap (map.get (map.remove state.nodes at)) same ∙ gone_here state.nodes at
          ∙ sym (ap (option_map (content_of (with_reserved blocks (blocks.reserved - 1)))) (ap (map.get (map.remove nodes at)) same ∙ tree.gone_here nodes at))
      | inr ne ↦
          gone_there state.nodes at q ne ∙ held.exact q ∙ reread (map.get nodes q)
          ∙ sym (ap (option_map (content_of (with_reserved blocks (blocks.reserved - 1)))) (tree.gone_there nodes at q ne))
    ];
    files = held.files;
    unused = λ other free. held.unused other (λ q e. free q (tree.gone_there nodes at q (λ here.
        let found : Some (kind.File other) ≡ Some kind.Directory = sym e ∙ ap (map.get nodes) here ∙ is in absurd cc) ∙ e));
    reserved = (let less = total_less as_directory state.nodes at Dir got in let before = held.reserved in omega arith);
    counted = (
        let less = total_less blocks_taken state.nodes at Dir got in
        let count = total_less as_directory state.nodes at Dir got in
        let before = held.counted in
        let dirs = held.reserved in omega arith);
  }
    where
      got : map.get state.nodes at ≡ Some Dir
      got = held.exact at ∙ ap (option_map (content_of blocks)) is

      reread : (o : Option Kind) → option_map (content_of blocks) o ≡ option_map (content_of (with_reserved blocks (blocks.reserved - 1))) o
      reread None = refl
      reread (Some kind.Directory) = refl
      reread (Some (kind.File number)) = refl

  -- a directory has a block
  pub has_block : map.get nodes at ≡ Some kind.Directory → 0 < blocks.reserved
  has_block is =
      let got : map.get state.nodes at ≡ Some Dir = held.exact at ∙ ap (option_map (content_of blocks)) is in
      let count = total_less as_directory state.nodes at Dir got in
      let dirs = held.reserved in omega arith
