-- The header of an object of BPF (System V gABI, chapter 4, "ELF Header").
use Rattle.std.specs.Prelude.{◌≡◌, ℕ, ◌≤◌, List, length, drop, slice_index}
use Rattle.byteorder.specs.Endian.{little_number}

-- the number in so many bytes from an offset on, the lowest first
unfoldable pub number_at : ℕ → ℕ → List ℕ → ℕ
number_at size offset bytes = little_number size (drop offset bytes)

-- at most 16 MiB
abbrev pub IsWithinLimit : List ℕ → Type 0
IsWithinLimit bytes = length bytes ≤ 16777216

-- a whole header, which begins with 0x7f and "ELF"
pub record IsElf (bytes : List ℕ) : Type 0 where
  pub limit : IsWithinLimit bytes
  pub header : 64 ≤ length bytes
  pub magic : number_at 4 0 bytes ≡ 1179403647

-- 64 bits, little-endian, version 1
pub record IsElf64 (bytes : List ℕ) : Type 0 where
  pub elf : IsElf bytes
  pub class : slice_index bytes 4 ≡ 2
  pub order : slice_index bytes 5 ≡ 1
  pub identification : slice_index bytes 6 ≡ 1
  pub version : number_at 4 20 bytes ≡ 1

pub record IsRelocatable (bytes : List ℕ) : Type 0 where
  pub elf64 : IsElf64 bytes
  pub kind : number_at 2 16 bytes ≡ 1

pub record IsBpf (bytes : List ℕ) : Type 0 where
  pub relocatable : IsRelocatable bytes
  pub machine : number_at 2 18 bytes ≡ 247
