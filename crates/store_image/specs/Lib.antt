pub mod StoreImage
pub mod SoundStore
